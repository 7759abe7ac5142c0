use Rattle.std.proofs.Common.{◌∙◌, sym}
use Rattle.desk_model.specs.Tables.{tables}
use Rattle.desk_model.specs.declared.command.Command.TheVariants.{Choose}
use Rattle.desk_history.proofs.Steps.{step-answer}
use Rattle.desk_wanting.proofs.Accepted.{accepted}
use Rattle.desk_wanting.proofs.Recorded.{finds}
use Rattle.desk_wanting.proofs.choice_laws.recorded_sole_choices_are_accepted.Goals as goal

pub returns : goal.returns
returns c =
    let sorted = c.listed_tables_are_sorted.ensures in
    record {
      found = λ w h order is. finds w h (sorted w h order) is;
      accepted = λ w h r choices one lists order is e m.
          sym (step-answer w h (Choose r one.document one.package_id one.terms))
          ∙ accepted w (tables w h) r lists (finds w h (sorted w h order) is) choices one e m;
    }
