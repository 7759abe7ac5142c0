use Rattle.std.proofs.Common.{refl}
use Rattle.desk_history.proofs.Alone.{not_recorded}
use Rattle.desk_history.proofs.answers.recorded_exactly.Goals as goal

pub returns : goal.returns
returns c = record { again = λ n. refl; refused = λ refusal. refl; only = not_recorded }
