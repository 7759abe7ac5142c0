use Rattle.std.proofs.Common.{length}
use Rattle.desk_lists.proofs.columns.+add_row.Given as goal

abbrev pub decreases-add_row : goal.decreases-add_row
decreases-add_row l = length l.cells.now
