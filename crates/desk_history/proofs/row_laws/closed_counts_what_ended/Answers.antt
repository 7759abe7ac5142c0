use Rattle.desk_history.proofs.Lines.{ended_told}
use Rattle.desk_history.proofs.row_laws.closed_counts_what_ended.Goals as goal

pub returns : goal.returns
returns c = ended_told
