use Rattle.std.proofs.Common.{take}
use Rattle.std.specs.Io.KnownBytes.{Appends}
use Rattle.desk_tree_reports.specs.Pieces.{woven}
use Rattle.desk_tree_reports.proofs.pieces.write_pieces.Given as goal

abbrev pub invariant-loop-place : goal.invariant-loop-place
invariant-loop-place g l = Appends (g.W.Write.contents l.initial.writer)
    (g.W.Write.contents l.writer) (woven (take l.place l.owns) (take l.place l.shares))
