use Rattle.std.proofs.Common.{◌≡◌, ◌++◌, take, map, List}
use Rattle.std.specs.List.{flat_map}
use Rattle.desk_tree_infos.specs.Readers.{Reader, IsRightReader}
use Rattle.desk_tree_infos.specs.Tomls.{TomlText}
use Rattle.desk_tree_infos.specs.Folders.{Holds}
use Rattle.desk_tree_gather.specs.Gathering.{holder}
use Rattle.desk_tree_gather.specs.Survey.{info_sifted, stated_flaws}
use Rattle.desk_tree_infos.specs.Sharing.{infos_at}
use Rattle.desk_tree_gather.specs.Shown.{files_of, tree_in}
use Rattle.desk_tree_gather.proofs.surveying.each_sifted.Given as goal

abbrev pub invariant-loop-file : goal.invariant-loop-file
invariant-loop-file l = record {
  same : l.trail.folders.now ≡ l.initial.trail.folders.now;
  infos : (r : Reader) → IsRightReader r → (tomls : List TomlText)
      → Holds tomls l.initial.trail.folders.now
      → infos_at l.initial.trail.folders.now.all.items l.infos.items
      ≡ map (info_sifted r tomls (tree_in l.tree)) (files_of (take l.file-index l.files));
  flaws : (r : Reader) → IsRightReader r
      → l.flaws ≡ l.initial.flaws ++ flat_map (λ f. stated_flaws r (holder (tree_in l.tree) f))
      (files_of (take l.file-index l.files));
}
