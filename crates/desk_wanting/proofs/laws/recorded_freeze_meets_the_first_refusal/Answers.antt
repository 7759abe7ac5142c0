use Rattle.std.proofs.Common.{◌∙◌, sym}
use Rattle.desk_model.specs.Tables.{tables}
use Rattle.desk_model.specs.declared.command.Command.TheVariants.{Freeze}
use Rattle.desk_history.proofs.Steps.{step-answer}
use Rattle.desk_wanting.proofs.Firsts.{freeze_refused, freeze_accepted, freeze_full, freeze_only}
use Rattle.desk_wanting.proofs.laws.recorded_freeze_meets_the_first_refusal.Goals as goal

pub returns : goal.returns
returns c = record {
  refused = λ w h r day first others is e. sym (step-answer w h (Freeze r day))
      ∙ freeze_refused w (tables w h) r day first others is e;
  accepted = λ w h r day is e fits. sym (step-answer w h (Freeze r day))
      ∙ freeze_accepted w (tables w h) r day is e fits;
  full = λ w h r day is e over. sym (step-answer w h (Freeze r day))
      ∙ freeze_full w (tables w h) r day is e over;
  only = λ w h r day first count e. freeze_only w (tables w h) r day first count
      (step-answer w h (Freeze r day) ∙ e);
}
