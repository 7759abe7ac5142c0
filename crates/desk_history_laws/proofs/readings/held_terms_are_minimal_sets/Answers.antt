use Rattle.desk_history_laws.proofs.ChoiceSets.{held_set}
use Rattle.desk_history_laws.proofs.readings.held_terms_are_minimal_sets.Goals as goal

pub returns : goal.returns
returns c = record {
  held = λ w h r d p right ok some. held_set w (c.choices_are_minimal_sets.ensures w right) h d p _
      (c.held_choices_are_minimal.ensures w h r d p ok some);
  frozen = λ w h f right ok is. held_set w (c.choices_are_minimal_sets.ensures w right) is.before
      is.row.document is.row.id _ (c.frozen_terms_were_held.ensures.minimal w h f ok is);
}
