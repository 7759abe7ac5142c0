use Rattle.std.proofs.Common.{◌≡◌, ◌<◌, ◌++◌, ◌∷◌, [], ℕ, map, ap, ap₂, sym, ◌∙◌, add-one, length}
use Rattle.std.proofs.Common.{get_or, take, drop, ◌+◌, false, List, subst, rules}
use Rattle.std.specs.Prelude.{◌==◌}
use Rattle.sqlite_value.specs.Order.{column}
use Rattle.desk_sql_layout.specs.Cells.{number, change_cells}
use Rattle.desk_model.specs.declared.row.ChangeRow.{ChangeRow}
use Rattle.std.specs.List.{AllByRecursion}
use Rattle.desk_model.specs.declared.command.Fault.TheVariants.{Memory}
use Rattle.desk_sql_layout.specs.Causes.{HasDay, IsRow, IsWritten}
use Rattle.desk_sql_layout.proofs.Loops.{at_place}
use Rattle.desk_sql_lookup.specs.Waivers.{taken, waivers_in}
use Rattle.desk_sql_lookup.proofs.Ending.{taken_is, front_rest}
use Rattle.desk_sql_lookup.proofs.changes.with_waivers.Goals as goal

same_numbers : (a b : ℕ) → number a ≡ number b → a ≡ b
same_numbers a b h = cc

pub loop-row-preserved : goal.loop-row-preserved
loop-row-preserved c = λ xs steps is own.
    let was = c.loop-row.invariant xs steps is own in
    let i = c.loop-row.row-index in
    let low : i < length (map change_cells xs) = rw (← is) c.loop-row-test.true in
    let x = front_rest change_cells (λ (a : ChangeRow) (b : ChangeRow). (a.step == b.step) ≡ false)
    xs i c.row-item.result low steps in
    let row : c.row-item.result ≡ change_cells x.0 = c.row-item.is
    ∙ ap (λ l. get_or l i c.row-item.result) is ∙ x.2 in
    let step : c.in_ok-number_at.field-0 ≡ x.0.step =
    same_numbers _ _ (sym c.in_ok-number_at.ensures.value ∙ ap (λ r. column r 1) row) in
    let took = c.take_waiver-last_day.ensures ∙ ap₂ taken step (was.1 ∙ ap waivers_in x.4)
    ∙ taken_is x.0 x.1 x.6 in
    let one : c.in_ok-read_change.field-0 ≡ x.0 = c.in_ok-read_change.ensures.value x.0 row
    ∙ ap (λ p. record x.0 { last_day = p.0 }) took in
    let items : c.push.new.self.items ≡ take (i + 1) xs =
    rw (c.in_ok-push.ensures.items, add-one i) (ap₂ (λ a b. a ++ b ∷ []) was.0 one ∙ sym x.3) in
    let left : c.take_waiver-last_day.result.1.now ≡ waivers_in (drop (i + 1) xs) =
    rw (add-one i) (ap (λ p. p.1) took ∙ ap waivers_in (sym x.5)) in (items, left)

pub returns-in_err-number_at-clause-cause : goal.returns-in_err-number_at-clause-cause
returns-in_err-number_at-clause-cause c =
    let rows = c.args.rows.now in
    let row = c.row-item.result in
    let told : (xs : List ChangeRow) → rows ≡ map change_cells xs → AllByRecursion IsRow rows
    → AllByRecursion HasDay xs → c.in_err-number_at.field-0.0 ≡ Memory = λ xs is all days.
    let x = at_place change_cells IsRow HasDay xs rows c.loop-row.row-index row is
    c.loop-row-test.true all days in
    let row_is = c.row-item.is ∙ x.1 in
    c.in_err-number_at.ensures.cause x.0.step (ap (λ r. column r 1) row_is)
    (subst (λ r. IsWritten (column r 1)) (sym row_is) (subst IsRow x.1 x.2).1.0) in
    search rules

pub returns-in_err-read_change-clause-cause : goal.returns-in_err-read_change-clause-cause
returns-in_err-read_change-clause-cause c =
    let rows = c.args.rows.now in
    let row = c.row-item.result in
    let told : (xs : List ChangeRow) → rows ≡ map change_cells xs → AllByRecursion IsRow rows
    → AllByRecursion HasDay xs → c.in_err-read_change.field-0.0 ≡ Memory = λ xs is all days.
    let x = at_place change_cells IsRow HasDay xs rows c.loop-row.row-index row is
    c.loop-row-test.true all days in
    c.in_err-read_change.ensures.cause x.0 (c.row-item.is ∙ x.1)
    (subst IsRow (sym c.row-item.is) x.2) x.3 in
    search rules
