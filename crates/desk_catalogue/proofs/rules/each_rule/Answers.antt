use Rattle.std.proofs.Common.{◌∙◌, sym, ap}
use Rattle.toml.specs.View.{view}
use Rattle.desk_model.specs.declared.refusal.CatalogueFault.TheVariants.{Twice}
use Rattle.desk_model.specs.declared.refusal.CataloguePart.TheVariants as part
use Rattle.desk_catalogue.specs.Kept.{has_rule, put_rule}
use Rattle.desk_catalogue.specs.Reading.{rule_at}
use Rattle.desk_catalogue.specs.Shown.{codes_in, rules_in}
use Rattle.desk_catalogue.proofs.EntryLemmas.{step_fault, step_twice, step_added}
use Rattle.desk_catalogue.proofs.rules.each_rule.Goals as goal

pub returns-then-not-branch : goal.returns-then-not-branch
returns-then-not-branch c = λ terms h.
    let entry = rule_at terms c.args.known.now.forms (codes_in c.args.known.now.duties) in
    let read = ap (λ v. entry c.loop-i.i (view v)) (sym c.index-values-i.is)
    ∙ sym (c.in_ok-rule.ensures terms h) ∙ c.in-Ok.is in
    let there = sym c.in_ok-add_rule-in-Ok.ensures.added ∙ c.if-not-branch.true in
    sym (step_twice entry has_rule (Twice part.Rule) (λ rules rule. put_rule rule rules)
    (rules_in c.loop-i.rules) c.args.values.now c.loop-i.i c.index-values-i.result c.in-Ok.rule
    c.loop-i-test.true read there ∙ c.loop-i.invariant terms h)

pub returns-in-Err : goal.returns-in-Err
returns-in-Err c = λ terms h.
    let entry = rule_at terms c.args.known.now.forms (codes_in c.args.known.now.duties) in
    let read = ap (λ v. entry c.loop-i.i (view v)) (sym c.index-values-i.is)
    ∙ sym (c.in_ok-rule.ensures terms h) ∙ c.in-Err.is in
    sym (step_fault entry has_rule (Twice part.Rule) (λ rules rule. put_rule rule rules)
    (rules_in c.loop-i.rules) c.args.values.now c.loop-i.i c.index-values-i.result c.in-Err.fault
    c.loop-i-test.true read ∙ c.loop-i.invariant terms h)

pub loop-i-preserved : goal.loop-i-preserved
loop-i-preserved c = λ terms h.
    let entry = rule_at terms c.args.known.now.forms (codes_in c.args.known.now.duties) in
    let read = ap (λ v. entry c.loop-i.i (view v)) (sym c.index-values-i.is)
    ∙ sym (c.in_ok-rule.ensures terms h) ∙ c.in-Ok.is in
    let new = sym c.in_ok-add_rule-in-Ok.ensures.added ∙ c.if-not-branch.false in
    step_added entry has_rule (Twice part.Rule) (λ rules rule. put_rule rule rules)
    (rules_in c.loop-i.rules) c.args.values.now c.loop-i.i c.index-values-i.result c.in-Ok.rule
    c.loop-i-test.true read new (rules_in c.add_rule.new.rules) c.in_ok-add_rule-in-Ok.ensures.rules
    ∙ c.loop-i.invariant terms h
