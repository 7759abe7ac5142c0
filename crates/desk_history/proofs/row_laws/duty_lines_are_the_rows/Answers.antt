use Rattle.desk_history.proofs.Lines.{lines_told}
use Rattle.desk_history.proofs.row_laws.duty_lines_are_the_rows.Goals as goal

pub returns : goal.returns
returns c = lines_told
