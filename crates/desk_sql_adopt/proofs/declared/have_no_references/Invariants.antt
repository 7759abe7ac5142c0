use Rattle.std.proofs.Common.{◌≡◌, [], take}
use Rattle.std.specs.List.{AllByRecursion}
use Rattle.sqlite_schema.specs.declared.schema.Table.{Table}
use Rattle.desk_sql_adopt.proofs.declared.have_no_references.Given as goal

-- so far none has any
abbrev pub invariant-loop-table : goal.invariant-loop-table
invariant-loop-table l =
    AllByRecursion (λ (t : Table). t.references ≡ []) (take l.table-index l.tables)
