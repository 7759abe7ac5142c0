use Rattle.desk_laws.proofs.tables.right_readings_give_orderly_tables.Goals as goal

pub returns : goal.returns
returns c = record {
  tables = λ w h right. c.tables_are_orderly.ensures w h
      (c.right_readings_list_in_order.ensures w right) (c.right_readings_list_ids.ensures w right);
  changes = λ w t command right. c.changes_can_be_written.ensures w t command
      (c.right_readings_list_in_order.ensures w right) (c.right_readings_list_ids.ensures w right);
}
