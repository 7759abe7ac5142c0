use Rattle.std.proofs.Common.{◌≡◌, ◌++◌, take}
use Rattle.std.specs.List.{flat_map}
use Rattle.desk_answers.specs.Refusals.{cause_line}
use Rattle.desk_answers.proofs.refusals.add_causes.Given as goal

-- the cause of each entry before the index
abbrev pub invariant-loop-entry : goal.invariant-loop-entry
invariant-loop-entry l = l.text.items ≡ l.initial.text.items
    ++ flat_map (cause_line l.subject) (take l.entry-index l.entries)
