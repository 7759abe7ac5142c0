use Rattle.std.proofs.Common.{◌≡◌, ◌+◌, length}
use Rattle.desk_tree_patterns.specs.Parts.{pieces}
use Rattle.desk_tree_patterns.proofs.PartLemmas.{placed, Completes}
use Rattle.desk_tree_patterns.proofs.glob.Glob.parse.Given as goal

abbrev pub invariant-loop-piece : goal.invariant-loop-piece
invariant-loop-piece l = record {
  all : placed l.parts.items + l.before ≡ length l.bytes.items;
  read : Completes l.pattern (pieces l.bytes.items l.parts.items) l.rest;
}

abbrev pub decreases-loop-piece : goal.decreases-loop-piece
decreases-loop-piece l = length l.rest
