-- Which licences and exceptions are used (SPDX 2.3, Annex D).
use Rattle.std.specs.Prelude.{◌↔◌, ◌⊎◌, ℕ, List, [], ◌∷◌, option_to_list, Contains}
use Rattle.std.specs.List.{flat_map}
use Rattle.std.specs.List.Sorted.{IsStrictlySortedBy}
use Rattle.std.specs.Ordering.{nat_cmp}
use Rattle.std.specs.Cmp.Lexicographic.{slice_cmp}
use Rattle.desk_expr.specs.declared.term.Term.{Term}
use Rattle.desk_expr.specs.Tree.{Tree}
use Rattle.desk_expr.specs.Occurring.{leaves}
use Rattle.desk_expr.specs.Spelling.{SpellsWithin}
use Rattle.desk_tree_infos.specs.declared.infos.FileInfo.{FileInfo}
use Rattle.desk_tree_infos.specs.Firsts.{FirstTexts}

-- the licence or reference of a term, and its exception
abbrev pub term_keys : Term → List (List ℕ)
term_keys t = t.key ∷ option_to_list t.exception

-- the same for several terms
abbrev pub keys_in : List Term → List (List ℕ)
keys_in ts = flat_map term_keys ts

-- the expression that a text spells has the key in some term
abbrev pub Uses : List ℕ → List ℕ → Type 0
Uses text key = (e : Tree) × SpellsWithin text e × Contains (keys_in (leaves e)) key

-- a fact is true of some item
abbrev pub SomeOf : {A : Type 0} → (A → Type 0) → List A → Type 0
SomeOf P [] = ⊥
SomeOf P (x ∷ xs) = P x ⊎ SomeOf P xs

-- some licence of a covered file uses the key
abbrev pub IsUsedIn : List (List ℕ) → List ℕ → Type 0
IsUsedIn licences key = SomeOf (λ text. Uses text key) licences

-- some licence of some covered file uses the key
abbrev pub IsUsed : List FileInfo → List ℕ → Type 0
IsUsed infos key = SomeOf (λ (i : FileInfo). IsUsedIn i.licences key) infos

-- the same from the texts that files have first
abbrev pub IsFirstUsed : List FirstTexts → List ℕ → Type 0
IsFirstUsed firsts key = SomeOf (λ (f : FirstTexts). IsUsedIn f.texts key) firsts

-- the keys that are used, each once, in byte order
pub record AreUsed (infos : List FileInfo) (keys : List (List ℕ)) : Type 0 where
  pub members : (key : List ℕ) → Contains keys key ↔ IsUsed infos key
  pub ordered : IsStrictlySortedBy (slice_cmp nat_cmp) keys
