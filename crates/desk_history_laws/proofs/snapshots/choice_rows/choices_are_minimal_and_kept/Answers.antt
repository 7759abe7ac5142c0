use Rattle.desk_history_laws.proofs.ChoiceRows.{are_choices}
use Rattle.desk_history_laws.proofs.snapshots.choice_rows.choices_are_minimal_and_kept.Goals as goal

pub returns : goal.returns
returns c = are_choices (record {
  stands = c.last_choice_stands.ensures;
  from_set = c.sets_keep_their_members.ensures.only;
  sets_rise = c.sets_keep_their_members.ensures.order;
  minimal = c.held_choices_are_minimal.ensures;
  were = c.frozen_terms_were_held.ensures.held;
  chosen = c.choices_are_the_last_decisions.ensures.only;
  rows = c.choices_are_the_last_decisions.ensures.held;
  frozen_held = c.frozen_choices_are_the_frozen_terms.ensures.held;
  held_frozen = c.frozen_choices_are_the_frozen_terms.ensures.only;
})
