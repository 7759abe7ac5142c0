use Rattle.desk_history_laws.proofs.Releases.{in_shipped, from_shipped}
use Rattle.desk_history_laws.proofs.shipped_exactly.Goals as goal

pub returns : goal.returns
returns c = record { held = in_shipped; only = from_shipped }
