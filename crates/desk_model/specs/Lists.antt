-- Functions on lists. A history has its newest command first.
use Rattle.std.specs.Prelude.{◌≡◌, ◌⊎◌, ◌&&◌, Bool, true, not, filter, List, [], ◌∷◌, Option, Some, None, if◌then◌else◌}
use Rattle.std.specs.List.{list_all}

-- the first of two that is there
abbrev pub or_else : {B : Type 0} → Option B → Option B → Option B
or_else None other = other
or_else (Some x) other = Some x

-- the newest entry that gives something
abbrev pub latest : {A B : Type 0} → (A → Option B) → List A → Option B
latest f [] = None
latest f (x ∷ xs) = or_else (f x) (latest f xs)

-- x in its place in a sorted list
abbrev pub put : {A : Type 0} → (A → A → Bool) → A → List A → List A
put below x [] = x ∷ []
put below x (y ∷ ys) = if below x y then x ∷ y ∷ ys else y ∷ put below x ys

-- each item of a list in its place
abbrev pub put_all : {A : Type 0} → (A → A → Bool) → List A → List A → List A
put_all below [] ys = ys
put_all below (x ∷ xs) ys = put below x (put_all below xs ys)

-- x in its place in a sorted list, instead of what has its key
abbrev pub replaced : {A : Type 0} → (A → A → Bool) → (A → Bool) → A → List A → List A
replaced below at x xs = put below x (filter (λ y. not (at y)) xs)

-- sorted by insertion
abbrev pub in_order : {A : Type 0} → (A → A → Bool) → List A → List A
in_order below [] = []
in_order below (x ∷ xs) = put below x (in_order below xs)

-- the rows that pass a test are changed
abbrev pub updated : {A : Type 0} → (A → Bool) → (A → A) → List A → List A
updated test change [] = []
updated test change (x ∷ xs) = (if test x then change x else x) ∷ updated test change xs

-- x is one of these
abbrev pub IsIn : {A : Type 0} → A → List A → Type 0
IsIn x [] = ⊥
IsIn x (y ∷ ys) = (y ≡ x) ⊎ IsIn x ys

-- none of these is below y
abbrev pub over : {A : Type 0} → (A → A → Bool) → A → List A → Bool
over below y zs = list_all (λ z. not (below z y)) zs

-- no row is below one before it
abbrev pub ascends : {A : Type 0} → (A → A → Bool) → List A → Bool
ascends below [] = true
ascends below (y ∷ ys) = over below y ys && ascends below ys
