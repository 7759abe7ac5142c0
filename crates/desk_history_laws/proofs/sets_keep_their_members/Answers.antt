use Rattle.desk_history_laws.proofs.Sets.{in_set, from_set, set_rises}
use Rattle.desk_history_laws.proofs.sets_keep_their_members.Goals as goal

pub returns : goal.returns
returns c = record { held = in_set; only = from_set; order = set_rises }
