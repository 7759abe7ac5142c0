use Rattle.std.proofs.Common.{◌≡◌, map}
use Rattle.desk_sql_scan.specs.Cells.{columns_of}
use Rattle.desk_sql_scan.proofs.scan.read_all.Given as goal

-- the rows so far are those whose cells came first
abbrev pub invariant-loop-row : goal.invariant-loop-row
invariant-loop-row g l = map (columns_of g.T.Stored.width) l.yielded
    ≡ map g.T.Stored.cells l.found.items
