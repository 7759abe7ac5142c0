use Rattle.std.proofs.Common.{slice_get, ap, ◌∙◌, ◌≡◌, List, map, rules}
use Rattle.desk_sql_lookup.proofs.Ruling.{first_rule_is}
use Rattle.std.specs.List.{AllByRecursion}
use Rattle.desk_model.specs.declared.command.Fault.TheVariants.{Memory}
use Rattle.desk_model.specs.declared.row.RuleRow.{RuleRow}
use Rattle.desk_sql_layout.specs.Causes.{IsRow}
use Rattle.desk_sql_layout.specs.Cells.{rule_cells}
use Rattle.desk_sql_layout.proofs.Causes.{no_days}
use Rattle.desk_sql_layout.proofs.Loops.{got_place}
use Rattle.desk_sql_lookup.proofs.rules.first_rule.Goals as goal

pub returns-in_ok-read_rule-in-Some-clause-value : goal.returns-in_ok-read_rule-in-Some-clause-value
returns-in_ok-read_rule-in-Some-clause-value c = λ xs words is. first_rule_is xs c.in-Some.row.now
    c.in_ok-read_rule-in-Some.field-0 words (c.in-Some.ensures.value ∙ ap (λ l. slice_get l 0) is)
    c.in_ok-read_rule-in-Some.ensures.value

pub returns-in_err-read_rule-in-Some-clause-cause : goal.returns-in_err-read_rule-in-Some-clause-cause
returns-in_err-read_rule-in-Some-clause-cause c =
    let rows = c.args.rows.now in
    let told : (xs : List RuleRow) → rows ≡ map rule_cells xs → AllByRecursion IsRow rows
    → c.in_err-read_rule-in-Some.field-0.0 ≡ Memory = λ xs is all.
    let x = got_place rule_cells IsRow (λ (x : RuleRow). Unit {0}) xs rows 0 c.in-Some.row.now is
    c.in-Some.ensures.value all (no_days xs) in
    c.in_err-read_rule-in-Some.ensures.cause x.0 x.1 x.2 in
    search rules
