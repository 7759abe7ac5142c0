use Rattle.desk_history.proofs.Listed.{sorted_as_listed}
use Rattle.desk_history.proofs.listed_tables_are_sorted.Goals as goal

pub returns : goal.returns
returns c = sorted_as_listed
