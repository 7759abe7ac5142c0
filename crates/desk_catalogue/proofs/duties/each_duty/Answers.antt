use Rattle.std.proofs.Common.{◌∙◌, sym, ap, subst}
use Rattle.std.specs.Prelude.{not}
use Rattle.toml.specs.View.{view}
use Rattle.desk_model.specs.Texts.{put_new}
use Rattle.desk_model.specs.declared.refusal.CatalogueFault.TheVariants.{Twice}
use Rattle.desk_model.specs.declared.refusal.CataloguePart.TheVariants as part
use Rattle.desk_catalogue.specs.Reading.{duty_at}
use Rattle.desk_catalogue.specs.Shown.{Gives}
use Rattle.desk_catalogue.proofs.EntryLemmas.{step_twice, step_added}
use Rattle.desk_model.proofs.TextSets.{texts-insert_key}
use Rattle.desk_catalogue.proofs.SetLemmas.{has_text}
use Rattle.desk_catalogue.proofs.duties.each_duty.Goals as goal
use Rattle.desk_base.specs.Borrowed.{texts}
use Rattle.desk_base.specs.TextSets.{is_among}

pub returns-then-not-branch : goal.returns-then-not-branch
returns-then-not-branch c =
    let read = ap (λ v. duty_at c.loop-i.i (view v)) (sym c.index-values-i.is)
    ∙ subst (Gives (duty_at c.loop-i.i (view c.index-values-i.result)) (λ text. text.now))
    c.in-Ok.is c.duty_at.ensures in
    let there = ap not (sym (has_text c.loop-i.duties.keys c.in-Ok.code.now))
    ∙ sym c.in_ok-insert-in-Ok.ensures.added ∙ c.if-not-branch.true in
    sym (step_twice duty_at is_among (Twice part.Duty) (λ before code. put_new code before)
    (texts c.loop-i.duties.keys) c.args.values.now c.loop-i.i c.index-values-i.result
    c.in-Ok.code.now c.loop-i-test.true read there ∙ c.loop-i.invariant)

pub loop-i-preserved : goal.loop-i-preserved
loop-i-preserved c =
    let read = ap (λ v. duty_at c.loop-i.i (view v)) (sym c.index-values-i.is)
    ∙ subst (Gives (duty_at c.loop-i.i (view c.index-values-i.result)) (λ text. text.now))
    c.in-Ok.is c.duty_at.ensures in
    let new = ap not (sym (has_text c.loop-i.duties.keys c.in-Ok.code.now))
    ∙ sym c.in_ok-insert-in-Ok.ensures.added ∙ c.if-not-branch.false in
    let put = ap texts c.in_ok-insert-in-Ok.ensures.keys
    ∙ texts-insert_key c.loop-i.duties.keys c.in-Ok.code in
    step_added duty_at is_among (Twice part.Duty) (λ before code. put_new code before)
    (texts c.loop-i.duties.keys) c.args.values.now c.loop-i.i c.index-values-i.result
    c.in-Ok.code.now c.loop-i-test.true read new (texts c.insert.new.self.keys) put
    ∙ c.loop-i.invariant
