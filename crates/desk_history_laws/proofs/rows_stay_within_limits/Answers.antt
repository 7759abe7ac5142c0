use Rattle.desk_history_laws.proofs.Bounded.{within}
use Rattle.desk_history_laws.proofs.rows_stay_within_limits.Goals as goal

pub returns : goal.returns
returns c = within (record {
  from_set = c.sets_keep_their_members.ensures.only;
  chosen = c.choices_are_the_last_decisions.ensures.only;
  were = c.frozen_terms_were_held.ensures.held;
  raised = c.raised_exactly.ensures.only;
  numbered = c.duties_are_numbered_and_few.ensures;
  few = c.changes_are_few.ensures;
})
