use Rattle.std.proofs.Common.{◌≡◌, take}
use Rattle.desk_explain.specs.Explanations.{entries_named}
use Rattle.desk_explain.proofs.named.entries.Given as goal

-- the entries of the tables before the index have been found
abbrev pub invariant-loop-table : goal.invariant-loop-table
invariant-loop-table l = l.found.items ≡ entries_named l.name (take l.table-index l.tables)
