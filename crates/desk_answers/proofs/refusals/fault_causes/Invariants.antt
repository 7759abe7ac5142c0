use Rattle.std.proofs.Common.{◌≡◌, take}
use Rattle.std.specs.List.{flat_map}
use Rattle.desk_answers.specs.Refusals.{cause_line}
use Rattle.desk_answers.proofs.refusals.fault_causes.Given as goal

-- the causes in each table before the index
abbrev pub invariant-loop-table : goal.invariant-loop-table
invariant-loop-table l = l.text.items
    ≡ flat_map (λ table. flat_map (cause_line l.subject) table.now) (take l.table-index l.tables)
