use Rattle.std.proofs.Common.{◌≡◌, drop}
use Rattle.desk_sql_layout.specs.Desk.{is_bytewise}
use Rattle.desk_files.proofs.indexes.is_bytewise.Given as goal

-- the columns that are left are compared byte by byte exactly if all are
abbrev pub invariant-loop-column : goal.invariant-loop-column
invariant-loop-column l =
    is_bytewise (drop l._column-index l.columns) l.rest ≡ is_bytewise l.columns l.fn.order
