use Rattle.std.proofs.Common.{◌≡◌, ◌++◌, take}
use Rattle.std.specs.List.{flat_map}
use Rattle.std.specs.String.{string_bytes}
use Rattle.desk_answers.specs.Sets.{behind}
use Rattle.desk_answers.proofs.sets.add_others.Given as goal

-- each term before the index
abbrev pub invariant-loop-term : goal.invariant-loop-term
invariant-loop-term l = string_bytes l.text ≡ string_bytes l.initial.text
    ++ flat_map behind (take l.term-index l.terms)
