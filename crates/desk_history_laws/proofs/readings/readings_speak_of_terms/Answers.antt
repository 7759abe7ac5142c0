use Rattle.std.proofs.Common.{◌∙◌}
use Rattle.desk_expr.specs.Printing.{printed_term}
use Rattle.desk_base.specs.declared.profile.Profile.TheVariants.{Capitals}
use Rattle.desk_history_laws.proofs.Forms.{adopted-printed, exception-printed, licence-id-printed}
use Rattle.desk_history_laws.proofs.Forms.{licence-printed, reference-printed, term-printed}
use Rattle.desk_history_laws.proofs.readings.readings_speak_of_terms.Goals as goal

pub returns : goal.returns
returns c = record {
  term = λ w right text t spells. (
    term-printed (w.term text) text t (right.term text) spells,
    c.spelled_terms_are_well_formed.ensures Capitals text t spells,
  );
  reference = λ w right t is. right.reference (printed_term t) ∙ reference-printed t is;
  licence = λ w right t is. right.licence (printed_term t) ∙ licence-printed t is;
  adopted = λ w right licence t plain is. right.adopted (printed_term licence) (printed_term t)
      ∙ adopted-printed licence t plain is;
  licence_id = λ w right t is other. right.licence_id (printed_term t)
      ∙ licence-id-printed t is other;
  exception = λ w right t is. right.exception (printed_term t) ∙ exception-printed t is;
}
