use Rattle.std.proofs.Common.{take}
use Rattle.std.specs.Io.KnownBytes.{Appends}
use Rattle.desk_tree_reports.specs.LongTexts.{joined}
use Rattle.desk_tree_reports.proofs.long_text.write_blocks.Given as goal

abbrev pub invariant-loop-block : goal.invariant-loop-block
invariant-loop-block g l = Appends (g.W.Write.contents l.initial.writer)
    (g.W.Write.contents l.writer) (joined (take l.block-index l.blocks))
