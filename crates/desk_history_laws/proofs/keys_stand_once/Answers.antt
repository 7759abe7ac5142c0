use Rattle.desk_history_laws.proofs.Keyed.{own_keys}
use Rattle.desk_history_laws.proofs.keys_stand_once.Goals as goal

pub returns : goal.returns
returns c w h right = own_keys (record {
  listed = c.listed_tables_are_sorted.ensures;
  owed = c.keys_are_distinct.ensures;
  stands = c.last_choice_stands.ensures;
  sets_rise = c.sets_keep_their_members.ensures.order;
  were = c.frozen_terms_were_held.ensures.held;
  loads = c.catalogues_are_the_loads.ensures.revisions;
  imports = c.documents_are_the_imports.ensures.documents;
}) w (c.right_readings_list_in_order.ensures w right) (c.right_readings_list_once.ensures w right) h
