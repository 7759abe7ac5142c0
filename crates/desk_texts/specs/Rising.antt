-- Texts in increasing order, and how many of them are below another.
use Rattle.std.specs.Prelude.{◌≡◌, ℕ, ◌≤◌, Bool, true, false, List, [], ◌∷◌, length, take, drop}
use Rattle.desk_model.specs.Texts.{text_below}

-- a fact is true of each
abbrev pub Each : {A : Type 0} → (A → Type 0) → List A → Type 0
Each P [] = Unit {0}
Each P (x ∷ xs) = P x × Each P xs

-- each is below all that follow it
abbrev pub Rises : List (List ℕ) → Type 0
Rises [] = Unit {0}
Rises (x ∷ xs) = Each (λ y. text_below x y ≡ true) xs × Rises xs

-- the first n are below an id, and those that follow are not
pub record IsLower (ids : List (List ℕ)) (id : List ℕ) (n : ℕ) : Type 0 where
  pub within : n ≤ length ids
  pub before : Each (λ x. text_below x id ≡ true) (take n ids)
  pub behind : Each (λ x. text_below x id ≡ false) (drop n ids)

-- whether an id is below the first of some; it is if there are none
abbrev pub is_below_first : List ℕ → List (List ℕ) → Bool
is_below_first id [] = true
is_below_first id (x ∷ xs) = text_below id x
