use Rattle.desk_history.proofs.Sorting.{sorted}
use Rattle.desk_history.proofs.tables_are_sorted.Goals as goal

pub returns : goal.returns
returns c = sorted
