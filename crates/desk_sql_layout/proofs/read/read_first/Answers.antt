use Rattle.std.proofs.Common.{◌≡◌, ◌∙◌, List, map, Some, ap, rules}
use Rattle.std.specs.List.{AllByRecursion}
use Rattle.desk_model.specs.declared.command.Fault.TheVariants.{Memory}
use Rattle.desk_sql_layout.specs.Causes.{IsRow}
use Rattle.desk_sql_layout.proofs.Loops.{first_value, got_place}
use Rattle.desk_sql_layout.proofs.read.read_first.Goals as goal

pub returns-in_err-read-in-Some-clause-cause : goal.returns-in_err-read-in-Some-clause-cause
returns-in_err-read-in-Some-clause-cause g c =
    let f = g.T.ReadRow.cells in
    let days = g.T.ReadRow.has_days in
    let rows = c.args.rows.now in
    let told : (xs : List _) → rows ≡ map f xs → AllByRecursion IsRow rows → AllByRecursion days xs
    → c.in_err-read-in-Some.field-0.0 ≡ Memory = λ xs is all each.
    let x = got_place f IsRow days xs rows 0 c.in-Some.row.now is c.in-Some.ensures.value all
    each in
    c.in_err-read-in-Some.ensures.cause x.0 x.1 x.2 x.3 in
    search rules

pub returns-in_ok-read-in-Some-clause-value : goal.returns-in_ok-read-in-Some-clause-value
returns-in_ok-read-in-Some-clause-value g c = λ xs is.
    let x = first_value g.T.ReadRow.cells xs c.args.rows.now c.in-Some.row.now is
    c.in-Some.ensures.value in
    ap (λ y. Some y) (c.in_ok-read-in-Some.ensures.value x.0 x.1) ∙ x.2
