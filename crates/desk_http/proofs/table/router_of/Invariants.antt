use Rattle.std.proofs.Common.{◌≡◌, [], drop}
use Rattle.desk_http.specs.Routes.{with_rows}
use Rattle.desk_http.proofs.table.router_of.Given as goal

abbrev pub invariant-loop-row : goal.invariant-loop-row
invariant-loop-row l = with_rows (drop l.row-index l.rows) l.routes ≡ with_rows l.rows []
