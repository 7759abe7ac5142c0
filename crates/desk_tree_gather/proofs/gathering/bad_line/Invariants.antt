use Rattle.std.proofs.Common.{◌≡◌, drop, map, true}
use Rattle.std.specs.Prelude.{IfSome}
use Rattle.desk_tree_annotations.specs.Right.{Tells}
use Rattle.desk_tree_annotations.specs.Tags.{tag_text}
use Rattle.desk_tree_infos.specs.Readers.{Reader, IsRightReader}
use Rattle.desk_tree_gather.specs.Gathering.{bad_line}
use Rattle.desk_tree_gather.proofs.gathering.bad_line.Given as goal

abbrev pub invariant-loop-tag : goal.invariant-loop-tag
invariant-loop-tag l = record {
  line : (r : Reader) → IsRightReader r
      → bad_line r (map tag_text (drop l.tag-index l.tags)) ≡ bad_line r (map tag_text l.tags);
  known : IfSome l.known (λ text. Tells text.now true);
}
