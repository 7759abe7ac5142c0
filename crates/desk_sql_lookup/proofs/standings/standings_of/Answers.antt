use Rattle.std.proofs.Common.{◌≡◌, ◌∙◌, ap, filter, length, map}
use Rattle.sqlite_trees.proofs.ListLemmas.{map-map}
use Rattle.desk_history.specs.FromTables.{standings_found}
use Rattle.desk_model.specs.Keys.{is_duty_of}
use Rattle.desk_sql_lookup.specs.Standings.{standing_by, state_row}
use Rattle.desk_sql_lookup.proofs.LookUps.{looks_then}
use Rattle.desk_sql_lookup.proofs.standings.standings_of.Goals as goal

pub returns : goal.returns
returns g c =
    let release = c.args.release.now in
    looks_then g.S.Store c.args.conn.now c.states_of.new.conn c.standings.new.conn (λ t. Unit {0})
    c.in_ok-rows.ensures c.standings.result c.standings.ensures
    (λ found t. length t.duty ≡ c.args.duties → found.items ≡ standings_found t release)
    (λ found t rows is count. is count
    ∙ (ap (map (standing_by t)) (c.deref.ensures.value ∙ rows)
    ∙ map-map (standing_by t) state_row (filter (is_duty_of release) t.duty)))
