use Rattle.desk_base.proofs.LinesOnce.{cuts_once}
use Rattle.desk_base.proofs.lines.one_cutting.Goals as goal

pub returns : goal.returns
returns c = cuts_once 1
