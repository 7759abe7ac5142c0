use Rattle.std.proofs.Common.{◌≡◌, ◌+◌, ap, ap₂, length, sym, take, Err, Ok, ◌∙◌}
use Rattle.std.specs.List.{filter_map}
use Rattle.desk_base.proofs.Lists.{take_whole}
use Rattle.desk_sql_lookup.specs.Standings.{and_some, ended_standing}
use Rattle.desk_sql_lookup.proofs.LookUps.{fails_too, lacks_memory, looks_none, looks_then, then_tells}
use Rattle.desk_sql_lookup.proofs.StandingLemmas.{some_more}
use Rattle.desk_sql_lookup.proofs.standings.ended_among.Goals as goal

pub loop-row-init : goal.loop-row-init
loop-row-init g c =
    looks_none g.S.Store c.args.conn.now (λ t. length t.duty ≡ c.args.duties) c.new-found.result
    (λ found t. length t.duty ≡ c.args.duties
    → found.items ≡ filter_map (ended_standing t c.args.day) (take 0 c.args.rows.now))
    (λ t count. c.new-found.ensures.items)

pub loop-row-preserved : goal.loop-row-preserved
loop-row-preserved g c =
    let front = take c.loop-row.row-index c.args.rows.now in
    let both = looks_then g.S.Store c.args.conn.now c.loop-row.conn c.standing_if_ended.new.conn
    (λ t. length t.duty ≡ c.args.duties) c.loop-row.invariant (Ok c.in_ok-standing.standing)
    c.in_ok-standing.ensures
    (λ one t. length t.duty ≡ c.args.duties
    → (c.loop-row.found.items ≡ filter_map (ended_standing t c.args.day) front)
    × (one ≡ ended_standing t c.args.day c.row-item.result))
    (λ one t was is count. (was count, is count)) in
    then_tells g.S.Store c.args.conn.now c.standing_if_ended.new.conn both
    (λ t. length t.duty ≡ c.args.duties) (Ok c.push_some.new.found)
    (λ found t. length t.duty ≡ c.args.duties
    → found.items ≡ filter_map (ended_standing t c.args.day)
    (take (c.loop-row.row-index + 1) c.args.rows.now))
    (λ clean t held count.
    let it = both.found clean t held count in
    c.in_ok-push_some.ensures ∙ ap₂ and_some it.0 it.1
    ∙ sym (some_more (ended_standing t c.args.day) c.args.rows.now c.loop-row.row-index
    c.row-item.result c.loop-row-test.true c.row-item.is))
    tt

pub returns-in_err-standing : goal.returns-in_err-standing
returns-in_err-standing g c =
    let fault = c.in_err-standing.field-0.0 in
    let both = looks_then g.S.Store c.args.conn.now c.loop-row.conn c.standing_if_ended.new.conn
    (λ t. length t.duty ≡ c.args.duties) c.loop-row.invariant (Err fault) c.in_err-standing.ensures
    (λ one t. length t.duty ≡ c.args.duties → one ≡ ended_standing t c.args.day c.row-item.result)
    (λ one t was is. is) in
    fails_too g.S.Store c.args.conn.now c.standing_if_ended.new.conn c.from_residual.result fault
    c.from_residual.ensures.1 _ (λ t. length t.duty ≡ c.args.duties) both

pub returns-in_err-push_some : goal.returns-in_err-push_some
returns-in_err-push_some g c =
    let both = looks_then g.S.Store c.args.conn.now c.loop-row.conn c.standing_if_ended.new.conn
    (λ t. length t.duty ≡ c.args.duties) c.loop-row.invariant (Ok c.in_ok-standing.standing)
    c.in_ok-standing.ensures
    (λ one t. length t.duty ≡ c.args.duties → one ≡ ended_standing t c.args.day c.row-item.result)
    (λ one t was is. is) in
    lacks_memory g.S.Store c.args.conn.now c.standing_if_ended.new.conn both
    (λ t. length t.duty ≡ c.args.duties) c.from_residual-in_err-push_some.result _
    c.from_residual-in_err-push_some.ensures.1

pub returns : goal.returns
returns g c =
    then_tells g.S.Store c.args.conn.now c.loop-row.conn c.loop-row.invariant
    (λ t. length t.duty ≡ c.args.duties) (Ok c.loop-row.found)
    (λ found t. length t.duty ≡ c.args.duties
    → found.items ≡ filter_map (ended_standing t c.args.day) c.args.rows.now)
    (λ clean t held count. c.loop-row.invariant.found clean t held count
    ∙ ap (filter_map (ended_standing t c.args.day))
    (take_whole c.args.rows.now c.loop-row.row-index c.loop-row-test.false)) tt
