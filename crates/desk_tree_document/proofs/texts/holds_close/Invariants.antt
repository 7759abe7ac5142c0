use Rattle.std.proofs.Common.{◌≡◌, length}
use Rattle.desk_tree_document.specs.Texts.{holds_close}
use Rattle.desk_tree_document.proofs.texts.holds_close.Given as goal

abbrev pub invariant-loop-after : goal.invariant-loop-after
invariant-loop-after l = holds_close l.rest ≡ holds_close l.text

abbrev pub decreases-loop-after : goal.decreases-loop-after
decreases-loop-after l = length l.rest
