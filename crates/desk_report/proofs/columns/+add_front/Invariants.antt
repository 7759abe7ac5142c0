use Rattle.std.proofs.Common.{length}
use Rattle.desk_report.proofs.columns.+add_front.Given as goal

abbrev pub decreases-add_front : goal.decreases-add_front
decreases-add_front l = length l.cells.now
