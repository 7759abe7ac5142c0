use Rattle.desk_history.proofs.Lines.{totals_told}
use Rattle.desk_history.proofs.row_laws.totals_count_the_rows.Goals as goal

pub returns : goal.returns
returns c = totals_told
