use Rattle.std.proofs.Common.{◌≡◌, ◌∙◌, ap, length}
use Rattle.std.specs.List.{filter_map}
use Rattle.desk_history.specs.FromTables.{ended_found}
use Rattle.desk_sql_lookup.specs.Standings.{ended_standing}
use Rattle.desk_sql_lookup.proofs.LookUps.{fails_any, looks_then}
use Rattle.desk_sql_lookup.proofs.StandingLemmas.{ended_are}
use Rattle.desk_sql_lookup.proofs.standings.ended.Goals as goal

pub returns-in_err-rows : goal.returns-in_err-rows
returns-in_err-rows g c =
    fails_any g.S.Store c.args.conn.now c.waived_duties.new.conn c.from_residual.result
    c.in_err-rows.field-0.0 c.from_residual.ensures.1
    (λ found t. length t.duty ≡ c.args.duties → found.items ≡ ended_found t c.args.day)
    (λ t. length t.duty ≡ c.args.duties) c.in_err-rows.ensures

pub returns : goal.returns
returns g c =
    looks_then g.S.Store c.args.conn.now c.waived_duties.new.conn c.ended_among.new.conn
    (λ t. length t.duty ≡ c.args.duties) c.in_ok-rows.ensures c.ended_among.result
    c.ended_among.ensures (λ found t. length t.duty ≡ c.args.duties
    → found.items ≡ ended_found t c.args.day)
    (λ found t rows is count. is count
    ∙ ap (filter_map (ended_standing t c.args.day)) (c.deref.ensures.value ∙ rows)
    ∙ ended_are t c.args.day t.duty)
