use Rattle.desk_history_laws.proofs.Choices.{last-choice, in_choices, from_choices}
use Rattle.desk_history_laws.proofs.choices_are_the_last_decisions.Goals as goal

pub returns : goal.returns
returns c = record {
  last = last-choice;
  held = in_choices c.last_choice_stands.ensures;
  only = from_choices c.last_choice_stands.ensures;
}
