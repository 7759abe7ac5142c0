use Rattle.std.proofs.Common.{◌≡◌, ◌<◌, ◌++◌, ◌∷◌, [], map, ap, ap₂, sym, ◌∙◌, add-one, length}
use Rattle.std.proofs.Common.{get_or, take, List, rules, subst}
use Rattle.std.proofs.lemmas.List.{map-append}
use Rattle.desk_sql_layout.specs.Cells.{reading_cells}
use Rattle.desk_model.specs.Queries.{head_of}
use Rattle.desk_sql_layout.specs.Shown.{name_cells}
use Rattle.std.specs.List.{AllByRecursion}
use Rattle.desk_model.specs.declared.row.DocumentRow.{DocumentRow}
use Rattle.desk_model.specs.declared.command.Fault.TheVariants.{Memory}
use Rattle.desk_sql_layout.specs.Causes.{IsRow}
use Rattle.desk_sql_layout.proofs.Loops.{at_two, front_two}
use Rattle.desk_sql_lookup.proofs.heads.read_heads.Goals as goal

pub loop-i-preserved : goal.loop-i-preserved
loop-i-preserved c = λ xs is are.
    let i = c.loop-i.i in
    let name = c.index-names-i.result in
    let reading = c.in-Some.reading.now in
    let low : i < length (map name_cells xs) = rw (← is) c.loop-i-test.true in
    let x = front_two name_cells reading_cells xs i name reading low
    (c.in-Some.ensures.lookup.1 ∙ ap (λ l. get_or l i reading) are) in
    let one = c.in_ok-read_head.ensures.value x.0
    (c.index-names-i.is ∙ ap (λ l. get_or l i name) is ∙ x.1) x.2 in
    rw (c.in_ok-push.ensures.items, add-one i)
    (ap₂ (λ a b. a ++ b ∷ []) (c.loop-i.invariant xs is are) one
    ∙ (sym (map-append head_of (take i xs) (x.0 ∷ [])) ∙ ap (map head_of) (sym x.3)))

pub returns-in_err-read_head-clause-cause : goal.returns-in_err-read_head-clause-cause
returns-in_err-read_head-clause-cause c =
    let names = c.args.names.now in
    let readings = c.args.readings.now in
    let name = c.index-names-i.result in
    let reading = c.in-Some.reading.now in
    let told : (xs : List DocumentRow) → names ≡ map name_cells xs → readings ≡ map reading_cells xs
    → AllByRecursion IsRow names → AllByRecursion IsRow readings
    → c.in_err-read_head.field-0.0 ≡ Memory = λ xs is are all each.
    let x = at_two name_cells reading_cells IsRow xs names readings c.loop-i.i name reading is are
    c.loop-i-test.true all each in
    let second = c.in-Some.ensures.lookup.1 in
    c.in_err-read_head.ensures.cause x.0 (c.index-names-i.is ∙ x.1) (second ∙ x.3)
    (subst IsRow (sym c.index-names-i.is) x.2) (subst IsRow (sym second) x.4) in
    search rules
