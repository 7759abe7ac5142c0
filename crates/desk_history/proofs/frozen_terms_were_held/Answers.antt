use Rattle.desk_history.proofs.Held.{frozen_in, frozen_was_minimal}
use Rattle.desk_history.proofs.frozen_terms_were_held.Goals as goal

pub returns : goal.returns
returns c = record { held = frozen_in; minimal = frozen_was_minimal }
