use Rattle.std.proofs.Common.{length}
use Rattle.desk_lists.proofs.columns.+add_widened.Given as goal

abbrev pub decreases-add_widened : goal.decreases-add_widened
decreases-add_widened l = length l.cells.now
