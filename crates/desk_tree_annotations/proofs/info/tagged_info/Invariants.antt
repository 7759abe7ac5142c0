use Rattle.std.proofs.Common.{◌+◌, ◌<◌, ◌^◌, length}
use Rattle.std.specs.Prelude.{codes, map}
use Rattle.desk_tree_annotations.specs.Tags.{tag_text}
use Rattle.desk_tree_annotations.specs.Skipping.{IsClear}
use Rattle.desk_tree_annotations.proofs.TagLemmas.{Completes}
use Rattle.desk_tree_annotations.proofs.info.tagged_info.Given as goal

abbrev pub invariant-loop-ahead : goal.invariant-loop-ahead
invariant-loop-ahead l = record {
  completes : Completes l.file l.line l.rest l.noticed (map tag_text l.notices.items) l.licensed
      (map tag_text l.licences.items);
  room : l.line + length l.rest < 2 ^ 64;
  clear : IsClear (codes "SPDX-") l.clear l.rest;
  within : 0 < l.clear → l.clear < length l.rest;
}

abbrev pub decreases-loop-ahead : goal.decreases-loop-ahead
decreases-loop-ahead l = length l.rest
