use Rattle.std.proofs.Common.{◌≡◌, take}
use Rattle.std.specs.List.{flat_map}
use Rattle.desk_answers.specs.Sets.{set_line}
use Rattle.desk_answers.proofs.sets.sets_text.Given as goal

-- the line of each set before the index
abbrev pub invariant-loop-set : goal.invariant-loop-set
invariant-loop-set l = l.text.items ≡ flat_map set_line (take l.set-index l.sets)
