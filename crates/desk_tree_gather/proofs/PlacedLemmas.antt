-- Files put into a map one after another.
use Rattle.std.proofs.Common.{◌≡◌, ◌∙◌, true, false, cond, List, ◌∷◌, ap}
use Rattle.std.specs.Prelude.{not, Err}
use Rattle.std.specs.Option.{is_some}
use Rattle.desk_tree_gather.specs.declared.fault.GatherFault.TheVariants.{BadPath, TwicePath}
use Rattle.desk_tree_gather.specs.declared.files.SourceFile.{SourceFile}
use Rattle.desk_tree_gather.specs.Paths.{is_path}
use Rattle.desk_tree_gather.specs.Trees.{put_file, bytes_at, placed}

module _ (sorted fs : List SourceFile) (f : SourceFile) (good : is_path f.path ≡ true) where
  opened : placed sorted (f ∷ fs)
      ≡ cond (is_some (bytes_at sorted f.path)) (Err TwicePath) (placed (put_file f sorted) fs)
  opened = ap (λ b. cond (not b) (Err BadPath)
      (cond (is_some (bytes_at sorted f.path)) (Err TwicePath) (placed (put_file f sorted) fs)))
      good

  pub placed_first : is_some (bytes_at sorted f.path) ≡ false
      → placed sorted (f ∷ fs) ≡ placed (put_file f sorted) fs
  placed_first new = opened ∙ ap (λ b. cond b (Err TwicePath) (placed (put_file f sorted) fs)) new

  pub placed_again : is_some (bytes_at sorted f.path) ≡ true
      → placed sorted (f ∷ fs) ≡ Err TwicePath
  placed_again old = opened ∙ ap (λ b. cond b (Err TwicePath) (placed (put_file f sorted) fs)) old
