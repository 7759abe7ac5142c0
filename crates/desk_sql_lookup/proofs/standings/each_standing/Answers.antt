use Rattle.std.proofs.Common.{◌≡◌, ◌+◌, ◌++◌, ◌∷◌, [], List, ℕ, ap, ap₂, get_or, length, map, sym, take, Err, Ok, ◌∙◌}
use Rattle.desk_model.specs.declared.state.DutyState.TheVariants.{IsOpen}
use Rattle.desk_sql_lookup.specs.Standings.{standing_by}
use Rattle.desk_sql_layout.specs.declared.rows.StateRow.{StateRow}
use Rattle.std.proofs.lemmas.List.{get_or_default}
use Rattle.desk_base.proofs.Lists.{take_whole}
use Rattle.desk_sql_lookup.proofs.LookUps.{fails_too, lacks_memory, looks_none, looks_then, then_tells}
use Rattle.desk_sql_lookup.proofs.StandingLemmas.{map_more}
use Rattle.desk_sql_lookup.proofs.standings.each_standing.Goals as goal

abbrev no_row : StateRow
no_row = record { number = 0; state = IsOpen }

-- the row of a turn
abbrev row_at : List StateRow → ℕ → StateRow
row_at rows i = get_or rows i no_row

pub loop-row-init : goal.loop-row-init
loop-row-init g c =
    looks_none g.S.Store c.args.conn.now (λ t. Unit {0}) c.new-found.result
    (λ found t. length t.duty ≡ c.args.duties
    → found.items ≡ map (standing_by t) (take 0 c.args.rows.now))
    (λ t count. c.new-found.ensures.items)

pub loop-row-preserved : goal.loop-row-preserved
loop-row-preserved g c =
    let front = take c.loop-row.row-index c.args.rows.now in
    let both = looks_then g.S.Store c.args.conn.now c.loop-row.conn c.standing.new.conn
    (λ t. Unit {0}) c.loop-row.invariant (Ok c.in_ok-standing.field-0) c.in_ok-standing.ensures
    (λ one t. length t.duty ≡ c.args.duties
    → (c.loop-row.found.items ≡ map (standing_by t) front)
    × (one ≡ standing_by t (row_at c.args.rows.now c.loop-row.row-index)))
    (λ one t was is count. (was count, is count)) in
    then_tells g.S.Store c.args.conn.now c.standing.new.conn both (λ t. Unit {0})
    (Ok c.push.new.self) (λ found t. length t.duty ≡ c.args.duties
    → found.items ≡ map (standing_by t) (take (c.loop-row.row-index + 1) c.args.rows.now))
    (λ clean t held count.
    let it = both.found clean t held count in
    c.in_ok-push.ensures.items ∙ ap₂ (λ a b. a ++ b ∷ []) it.0 it.1
    ∙ sym (map_more (standing_by t) c.args.rows.now c.loop-row.row-index
    (row_at c.args.rows.now c.loop-row.row-index) c.loop-row-test.true
    (get_or_default c.args.rows.now c.loop-row.row-index no_row
    (row_at c.args.rows.now c.loop-row.row-index) c.loop-row-test.true)))
    tt

pub returns-in_err-standing : goal.returns-in_err-standing
returns-in_err-standing g c =
    let fault = c.in_err-standing.field-0.0 in
    let both = looks_then g.S.Store c.args.conn.now c.loop-row.conn c.standing.new.conn
    (λ t. Unit {0}) c.loop-row.invariant (Err fault) c.in_err-standing.ensures
    (λ one t. length t.duty ≡ c.args.duties
    → one ≡ standing_by t (row_at c.args.rows.now c.loop-row.row-index)) (λ one t was is. is) in
    fails_too g.S.Store c.args.conn.now c.standing.new.conn c.from_residual.result fault
    c.from_residual.ensures.1 _ (λ t. Unit {0}) both

pub returns-in_err-push : goal.returns-in_err-push
returns-in_err-push g c =
    let both = looks_then g.S.Store c.args.conn.now c.loop-row.conn c.standing.new.conn
    (λ t. Unit {0}) c.loop-row.invariant (Ok c.in_ok-standing.field-0) c.in_ok-standing.ensures
    (λ one t. length t.duty ≡ c.args.duties
    → one ≡ standing_by t (row_at c.args.rows.now c.loop-row.row-index)) (λ one t was is. is) in
    lacks_memory g.S.Store c.args.conn.now c.standing.new.conn both (λ t. Unit {0})
    c.from_residual-in_err-push.result _ c.from_residual-in_err-push.ensures.1

pub returns : goal.returns
returns g c =
    then_tells g.S.Store c.args.conn.now c.loop-row.conn c.loop-row.invariant (λ t. Unit {0})
    (Ok c.loop-row.found) (λ found t. length t.duty ≡ c.args.duties
    → found.items ≡ map (standing_by t) c.args.rows.now)
    (λ clean t held count. c.loop-row.invariant.found clean t held count
    ∙ ap (map (standing_by t)) (take_whole c.args.rows.now c.loop-row.row-index
    c.loop-row-test.false)) tt
