use Rattle.std.proofs.Common.{◌≡◌, List, rules, ◌<◌, map, ap, ap₂, sym, ◌∙◌, ◌++◌, ◌∷◌, [], add-one, length, get_or}
use Rattle.std.specs.List.{AllByRecursion}
use Rattle.desk_model.specs.declared.command.Fault.TheVariants.{Memory}
use Rattle.desk_sql_layout.specs.Causes.{IsRow}
use Rattle.desk_sql_layout.proofs.Loops.{at_place, front_more}
use Rattle.desk_sql_layout.proofs.read.read_all.Goals as goal

pub loop-row-preserved : goal.loop-row-preserved
loop-row-preserved g c = λ xs is.
    let f = g.T.ReadRow.cells in
    let i = c.loop-row.row-index in
    let low : i < length (map f xs) = rw (← is) c.loop-row-test.true in
    let x = front_more f xs i c.row-item.result low in
    let one = c.in_ok-read.ensures.value x.0
    (c.row-item.is ∙ ap (λ l. get_or l i c.row-item.result) is ∙ x.1) in
    rw (c.in_ok-push.ensures.items, add-one i)
    (ap₂ (λ a b. a ++ b ∷ []) (c.loop-row.invariant xs is) one ∙ sym x.2)

pub returns-in_err-read-clause-cause : goal.returns-in_err-read-clause-cause
returns-in_err-read-clause-cause g c =
    let f = g.T.ReadRow.cells in
    let i = c.loop-row.row-index in
    let row = c.row-item.result in
    let fault = c.in_err-read.field-0.0 in
    let told : (xs : List _) → c.args.rows.now ≡ map f xs → AllByRecursion IsRow c.args.rows.now
    → AllByRecursion g.T.ReadRow.has_days xs → fault ≡ Memory = λ xs is all days.
    let x = at_place f IsRow g.T.ReadRow.has_days xs c.args.rows.now i row is c.loop-row-test.true
    all days in
    c.in_err-read.ensures.cause x.0 (c.row-item.is ∙ x.1) (rw c.row-item.is x.2) x.3 in
    search rules
