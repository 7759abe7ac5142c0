use Rattle.desk_history_laws.proofs.FrozenChoices.{frozen_is_held, held_is_frozen}
use Rattle.desk_history_laws.proofs.FrozenRows.{in_frozen, from_frozen}
use Rattle.desk_history_laws.proofs.Releases.{in_shipped}
use Rattle.desk_history_laws.proofs.frozen_choices_are_the_frozen_terms.Goals as goal

pub returns : goal.returns
returns c = record {
  held = λ w h row ok state m. frozen_is_held w h row ok state
      (from_frozen c.frozen_terms_were_held.ensures.held w h row m);
  only = λ w h r d p term ok state m. let is =
      held_is_frozen in_shipped w h r d p term ok state m in (is.0, in_frozen w h _ is.1);
}
