-- Which readings of patterns, licence expressions, paths and files are right.
use Rattle.std.specs.Prelude.{ℕ, Bool, List}
use Rattle.std.specs.Bool.{Decides}
use Rattle.desk_tree_patterns.specs.declared.glob.Piece.{Piece}
use Rattle.desk_tree_patterns.specs.Glob.{IsMatch}
use Rattle.desk_tree_annotations.specs.Tags.{TagText, IsInfo}
use Rattle.desk_tree_annotations.specs.Right.{Reading, IsRight}

-- what a file states itself, each text with its line
pub record Stated : Type 0 where
  pub notices : List TagText
  pub licences : List TagText

-- the pieces of patterns and which texts are licence expressions; which paths a pattern matches;
-- what each file states itself
pub record Reader : Type 0 where
  pub reading : Reading
  pub matches : List Piece → List ℕ → Bool
  pub stated : List ℕ → Stated

-- A right reader knows pieces and expressions, matches a pattern just when the path divides into
-- its pieces, and takes from each file what its tags state.
pub record IsRightReader (r : Reader) : Type 0 where
  pub reading : IsRight r.reading
  pub matching : (pieces : List Piece) (path : List ℕ)
      → Decides (r.matches pieces path) (IsMatch pieces path)
  pub stating : (file : List ℕ) → IsInfo file (r.stated file).notices (r.stated file).licences
