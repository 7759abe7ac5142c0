use Rattle.desk_history_laws.proofs.DutyRows.{in_duties, from_duties}
use Rattle.desk_history_laws.proofs.duty_rows_exactly.Goals as goal

pub returns : goal.returns
returns c = record {
  held = λ w h row is. in_duties w h (c.duties_are_numbered_on.ensures.held w h) row is;
  only = λ w h row m. from_duties w h (c.duties_are_numbered_on.ensures.only w h)
      (c.raised_exactly.ensures.only w h) row m;
}
