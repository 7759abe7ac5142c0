use Rattle.desk_history.proofs.Lines.{changes_told}
use Rattle.desk_history.proofs.row_laws.changes_are_the_rows.Goals as goal

pub returns : goal.returns
returns c = changes_told
