use Rattle.std.proofs.Common.{◌≡◌, length, map, Ok}
use Rattle.desk_sql_lookup.specs.Standings.{standing_by}
use Rattle.desk_sql_lookup.proofs.LookUps.{looks_then, then_tells}
use Rattle.desk_sql_lookup.proofs.standings.standings.Goals as goal

pub returns-in-Some-2 : goal.returns-in-Some-2
returns-in-Some-2 g c =
    let it = c.in_ok-found.ensures in
    then_tells g.S.Store c.args.conn.now c.standings_from.new.conn it (λ t. Unit {0})
    (Ok c.in-Some-2.found) (λ found t. length t.duty ≡ c.args.duties
    → found.items ≡ map (standing_by t) c.args.rows.now)
    (λ clean t held count. rw c.in-Some-2.is at (it.found clean t held)) tt

pub returns-in-None : goal.returns-in-None
returns-in-None g c =
    looks_then g.S.Store c.args.conn.now c.standings_from.new.conn c.each_standing.new.conn
    (λ t. Unit {0}) c.in_ok-found.ensures c.each_standing.result c.each_standing.ensures
    (λ found t. length t.duty ≡ c.args.duties → found.items ≡ map (standing_by t) c.args.rows.now)
    (λ found t was is. is)
