-- Which readings of patterns and of licence expressions are right.
use Rattle.std.specs.Prelude.{ℕ, Bool, true, false, List}
use Rattle.desk_expr.specs.Tree.{Tree}
use Rattle.desk_expr.specs.Spelling.{SpellsWithin}
use Rattle.desk_tree_patterns.specs.declared.glob.Piece.{Piece}
use Rattle.desk_tree_patterns.specs.Glob.{Spells}

-- the text is a licence expression (SPDX 2.3, Annex D), or isn't one
abbrev pub Tells : List ℕ → Bool → Type 0
Tells text true = (e : Tree) × SpellsWithin text e
Tells text false = (e : Tree) → SpellsWithin text e → ⊥

-- the pieces of each pattern, and which texts are licence expressions
pub record Reading : Type 0 where
  pub pieces : List ℕ → List Piece
  pub is_expression : List ℕ → Bool

-- a right reading cuts each pattern into its pieces (REUSE Specification 3.3, "REUSE.toml"), and
-- knows each licence expression
pub record IsRight (r : Reading) : Type 0 where
  pub patterns : (pattern : List ℕ) → Spells pattern (r.pieces pattern)
  pub expressions : (text : List ℕ) → Tells text (r.is_expression text)
