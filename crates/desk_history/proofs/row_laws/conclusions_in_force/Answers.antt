use Rattle.desk_history.proofs.Lines.{office_concludes, field_concludes, nothing_concludes, unread_field}
use Rattle.desk_history.proofs.row_laws.conclusions_in_force.Goals as goal

pub returns : goal.returns
returns c = record {
  office = office_concludes;
  field = field_concludes;
  absent = nothing_concludes;
  unread = unread_field;
}
