use Rattle.desk_history_laws.proofs.Moves.{moves-given, changes-given, place-given}
use Rattle.desk_history_laws.proofs.moves_are_a_filter.Goals as goal

pub returns : goal.returns
returns c = record { moves = moves-given; changes = changes-given; place = place-given }
