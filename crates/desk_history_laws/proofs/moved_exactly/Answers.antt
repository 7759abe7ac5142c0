use Rattle.desk_history_laws.proofs.Moves.{in_moves, from_moves}
use Rattle.desk_history_laws.proofs.moved_exactly.Goals as goal

pub returns : goal.returns
returns c = record { held = in_moves; only = from_moves }
