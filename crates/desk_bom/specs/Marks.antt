-- A walk over numbered places: arrows, sets of places, and the least set that is closed.
use Rattle.std.specs.Prelude.{◌≡◌, ℕ, ◌==◌, Bool, true, List, [], ◌∷◌, ◌++◌, Contains, if◌then◌else◌}
use Rattle.std.specs.List.{list_any}
use Rattle.desk_bom.specs.declared.arrows.Arrow.{Arrow}

-- a set that has its starts and, with each place, those to which the arrows lead from it
pub record IsClosedFrom (start : ℕ → Bool) (arrows : List Arrow) (set : ℕ → Bool) : Type 0 where
  pub starts : (a : ℕ) → start a ≡ true → set a ≡ true
  pub arrows_within : (x : Arrow) → Contains arrows x → set x.from ≡ true → set x.to ≡ true

-- the least of them: it is contained in every one
pub record IsLeastFrom (start : ℕ → Bool) (arrows : List Arrow) (set : ℕ → Bool) : Type 0 where
  pub closed : IsClosedFrom start arrows set
  pub least : (other : ℕ → Bool) → IsClosedFrom start arrows other → (a : ℕ) → set a ≡ true
      → other a ≡ true

-- the set of the places in a list
abbrev pub among : List ℕ → ℕ → Bool
among places a = list_any (λ b. b == a) places

-- a place was added to a list that has each place once
abbrev pub added : ℕ → List ℕ → List ℕ
added a places = if among places a then places else places ++ a ∷ []

-- these places were added, one after another
abbrev pub added_all : List ℕ → List ℕ → List ℕ
added_all [] places = places
added_all (a ∷ more) places = added_all more (added a places)
