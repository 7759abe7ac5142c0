-- A right reader.
use Rattle.std.proofs.Common.{◌⊎◌, inl, inr, ℕ, Bool, true, false, List, refl}
use Rattle.std.specs.Bool.{Decides}
use Rattle.desk_base.specs.declared.profile.Profile.TheVariants.{Capitals}
use Rattle.desk_expr.specs.Tree.{Tree}
use Rattle.desk_expr.specs.Spelling.{SpellsWithin}
use Rattle.desk_alts.proofs.Texts.{tree_of_text}
use Rattle.desk_tree_patterns.proofs.GlobOnce.{each_spelled}
use Rattle.desk_tree_annotations.specs.Right.{Reading, IsRight, Tells}
use Rattle.desk_tree_infos.specs.Readers.{Reader, IsRightReader}
use Rattle.desk_laws.proofs.Matching.{decided}
use Rattle.desk_laws.proofs.Stating.{stated}

decide : (P : Type 0) → P ⊎ (P → ⊥) → (b : Bool) × Decides b P
decide P (inl is) = (true, (λ e. is, λ p. refl))
decide P (inr not) = (false, (λ e. absurd cc, λ p. absurd (not p)))

tell : (text : List ℕ) → ((e : Tree) × SpellsWithin text e) ⊎ ((e : Tree) → SpellsWithin text e → ⊥)
    → (b : Bool) × Tells text b
tell text (inl spelled) = (true, spelled)
tell text (inr none) = (false, none)

reading : (r : Reading) × IsRight r
reading = (
  record {
    pieces = λ pattern. (each_spelled pattern).0;
    is_expression = λ text. (tell text (tree_of_text Capitals text)).0;
  },
  record {
    patterns = λ pattern. (each_spelled pattern).1;
    expressions = λ text. (tell text (tree_of_text Capitals text)).1;
  },
)

pub right_reader : (r : Reader) × IsRightReader r
right_reader = (
  record {
    reading = reading.0;
    matches = λ pieces path. (decide _ (decided pieces path)).0;
    stated = λ file. (stated file).0;
  },
  record {
    reading = reading.1;
    matching = λ pieces path. (decide _ (decided pieces path)).1;
    stating = λ file. (stated file).1;
  },
)
