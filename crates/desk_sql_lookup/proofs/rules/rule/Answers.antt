use Rattle.std.proofs.Common.{◌≡◌, ◌∙◌, ap, filter, length, sym}
use Rattle.std.specs.Prelude.{find, map}
use Rattle.std.proofs.lemmas.Result.{IfOk-weaker}
use Rattle.sqlite.specs.Held.{state}
use Rattle.desk_history.specs.FromTables.{rule_of, rules_found}
use Rattle.desk_model.specs.History.{rule_for}
use Rattle.desk_model.specs.Keys.{is_rule, is_rule_of, is_rule_at}
use Rattle.desk_sql_layout.specs.Cells.{rule_cells}
use Rattle.desk_sql_layout.proofs.Causes.{filter_written, rows_cause}
use Rattle.desk_sql_lookup.proofs.LookUps.{then_tells}
use Rattle.desk_sql_lookup.proofs.Ruling.{rule_is}
use Rattle.desk_sql_lookup.proofs.rules.rule.Goals as goal

pub returns : goal.returns
returns g c =
    let n = c.args.revisions in
    let term = c.args.term.now in
    let form = c.args.form.now in
    let p = is_rule_at n term form in
    then_tells g.S.Store c.args.conn.now c.select_rule.new.conn c.in_ok-rows.ensures (λ t. Unit {0})
    c.first_rule.result (λ found t. length t.catalogue ≡ n
    → found ≡ rule_for (rules_found t) term form)
    (IfOk-weaker c.first_rule.result _ _
    (λ found is clean t held count.
    let shown = c.in_ok-rows.ensures.found clean t held in
    is (filter p t.rule) shown.1 (c.deref.ensures.value ∙ shown.0) ∙ rule_is n term form t.rule
    ∙ ap (λ m. find (is_rule term form) (map rule_of (filter (is_rule_of m) t.rule))) (sym count))
    c.first_rule.ensures.value)
    (rows_cause rule_cells (λ t. Unit {0}) (state g.S.Store c.args.conn.now)
    (state g.S.Store c.select_rule.new.conn) c.first_rule.result c.deref.result.now
    (λ t. filter p t.rule)
    (λ clean t held any. c.deref.ensures.value ∙ (c.in_ok-rows.ensures.found clean t held).0)
    (λ t written. filter_written rule_cells rule_cells (λ x row. row) p t.rule (written.cells 2))
    c.first_rule.ensures.cause)
