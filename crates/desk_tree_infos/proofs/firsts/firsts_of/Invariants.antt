use Rattle.std.proofs.Common.{◌≡◌, ◌++◌, ℕ, List, take, drop, map}
use Rattle.std.specs.List.{flat_map}
use Rattle.desk_base.specs.TextSets.{is_among, has_text}
use Rattle.desk_tree_infos.specs.Firsts.{Knows, first_in, firsts_behind, firsts_of, texts_in}
use Rattle.desk_tree_infos.specs.Sharing.{infos_at}
use Rattle.desk_tree_infos.proofs.firsts.firsts_of.Given as goal

-- the texts of the files so far were seen; these and those of the rest are those of all
abbrev pub invariant-loop-file : goal.invariant-loop-file
invariant-loop-file l = record {
  knows : Knows l.all l.of l.seen;
  seen : (t : List ℕ) → has_text l.seen.texts t
      ≡ is_among (flat_map (texts_in l.of) (infos_at l.all (take l.file-index l.files))) t;
  so_far : map first_in l.firsts.items
      ++ firsts_behind l.of (flat_map (texts_in l.of) (infos_at l.all (take l.file-index l.files)))
      (infos_at l.all (drop l.file-index l.files))
      ≡ firsts_of l.of (infos_at l.all l.files);
}
