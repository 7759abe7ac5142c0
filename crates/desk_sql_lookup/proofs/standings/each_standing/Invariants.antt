use Rattle.std.proofs.Common.{◌≡◌, length, map, take, Ok}
use Rattle.desk_sql_lookup.specs.Standings.{standing_by}
use Rattle.desk_sql_lookup.specs.LookUps.{LooksUp}
use Rattle.desk_sql_lookup.proofs.standings.each_standing.Given as goal

abbrev pub invariant-loop-row : goal.invariant-loop-row
invariant-loop-row g l =
    LooksUp g.S.Store l.fn.conn l.conn (Ok l.found)
    (λ found t. length t.duty ≡ l.duties
    → found.items ≡ map (standing_by t) (take l.row-index l.rows))
