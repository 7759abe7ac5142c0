use Rattle.std.proofs.Common.{◌≡◌, ◌++◌, [], drop}
use Rattle.desk_tree_gather.specs.Survey.{sifted, path_flaws}
use Rattle.desk_tree_gather.specs.Shown.{tree_in}
use Rattle.desk_tree_gather.proofs.surveying.tree_kept.Given as goal

-- the files so far and the rest of them give what all give
abbrev pub invariant-loop-file : goal.invariant-loop-file
invariant-loop-file l = record {
  tree : sifted (tree_in l.tree) (drop l.file-index l.files) ≡ sifted [] l.files;
  flaws : l.flaws ++ path_flaws (tree_in l.tree) (drop l.file-index l.files) ≡ l.initial.flaws
      ++ path_flaws [] l.files;
}
