use Rattle.desk_beside.proofs.Whole.{are_shown}
use Rattle.desk_beside.proofs.laws.sound_rows_are_tables.Goals as goal

pub returns : goal.returns
returns c = are_shown
