use Rattle.desk_findings.proofs.Ships.{some_marks, one_marks, some_places, one_listing}
use Rattle.desk_findings.proofs.laws.what_ships_is_one_list.Goals as goal

pub returns : goal.returns
returns c = record {
  marks = some_marks;
  one_marks = one_marks;
  places = some_places;
  one_list = one_listing;
}
