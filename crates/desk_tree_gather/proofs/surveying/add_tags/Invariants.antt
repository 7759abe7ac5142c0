use Rattle.std.proofs.Common.{◌≡◌, ◌++◌, take, map, true}
use Rattle.std.specs.Prelude.{IfSome}
use Rattle.std.specs.List.{flat_map}
use Rattle.desk_tree_annotations.specs.Right.{Tells}
use Rattle.desk_tree_annotations.specs.Tags.{tag_text}
use Rattle.desk_tree_infos.specs.Readers.{Reader, IsRightReader}
use Rattle.desk_tree_gather.specs.Survey.{tag_flaws}
use Rattle.desk_tree_gather.proofs.surveying.add_tags.Given as goal

abbrev pub invariant-loop-tag : goal.invariant-loop-tag
invariant-loop-tag l = record {
  flaws : (r : Reader) → IsRightReader r
      → l.flaws ≡ l.initial.flaws ++ flat_map (tag_flaws r l.path)
      (map tag_text (take l.tag-index l.tags));
  known : IfSome l.known (λ text. Tells text.now true);
}
