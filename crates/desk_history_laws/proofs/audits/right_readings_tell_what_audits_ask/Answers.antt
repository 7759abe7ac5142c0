use Rattle.desk_history_laws.proofs.ReadingRights.{reads_choices, reads_rules}
use Rattle.desk_history_laws.proofs.audits.right_readings_tell_what_audits_ask.Goals as goal

pub returns : goal.returns
returns c = record {
  rules = reads_rules c.right_readings_list_in_order.ensures c.right_readings_list_ids.ensures;
  choices = reads_choices c.readings_speak_of_terms.ensures.term c.choices_are_minimal_sets.ensures
      c.expressions_have_no_fault.ensures c.right_readings_list_once.ensures;
}
