use Rattle.std.proofs.Common.{◌≡◌, length, take, Ok}
use Rattle.std.specs.List.{filter_map}
use Rattle.desk_sql_lookup.specs.LookUps.{LooksUpIf}
use Rattle.desk_sql_lookup.specs.Standings.{ended_standing}
use Rattle.desk_sql_lookup.proofs.standings.ended_among.Given as goal

abbrev pub invariant-loop-row : goal.invariant-loop-row
invariant-loop-row g l =
    LooksUpIf g.S.Store (λ t. length t.duty ≡ l.duties) l.fn.conn l.conn (Ok l.found)
    (λ found t. found.items ≡ filter_map (ended_standing t l.day) (take l.row-index l.rows))
