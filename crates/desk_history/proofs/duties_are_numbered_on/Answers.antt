use Rattle.desk_history.proofs.Numbers.{is_in_numbered, numbered_in, numbers_stay}
use Rattle.desk_history.proofs.duties_are_numbered_on.Goals as goal

pub returns : goal.returns
returns c = record { held = is_in_numbered; only = numbered_in; stays = numbers_stay }
