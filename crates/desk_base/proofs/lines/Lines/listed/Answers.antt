use Rattle.std.proofs.Common.{[], append-nil}
use Rattle.desk_base.proofs.lines.Lines.listed.Goals as goal

pub returns : goal.returns
returns c = rw append-nil at (c.loop-line.invariant [] c.in-None.ensures.steps.0)
