-- Two ways to cut one list at an element.
use Rattle.std.proofs.Common.{◌≡◌, ◌⊎◌, inl, inr, List, [], ◌∷◌, ◌++◌, drop, get_or, refl, sym, ap}

-- the cuts are the same, or one is within the other's front
abbrev pub Cuts : {X : Type 0} → List X → X → List X → X → Type 0
Cuts {X = X} front x other y =
    ((front ≡ other) × (x ≡ y))
    ⊎ (((more : List X) × (other ≡ front ++ x ∷ more))
    ⊎ ((more : List X) × (front ≡ other ++ y ∷ more)))

head_same : {X : Type 0} (x y : X) (xs ys : List X) → x ∷ xs ≡ y ∷ ys → x ≡ y
head_same x y xs ys e = ap (λ l. get_or l 0 x) e

tail_same : {X : Type 0} (x y : X) (xs ys : List X) → x ∷ xs ≡ y ∷ ys → xs ≡ ys
tail_same x y xs ys e = ap (λ l. drop 1 l) e

one_deeper : {X : Type 0} (u v : X) (us vs : List X) (x y : X) → u ≡ v → Cuts us x vs y
    → Cuts (u ∷ us) x (v ∷ vs) y
one_deeper u v us vs x y same (inl both) = inl ((λ i. same i ∷ both.0 i), both.1)
one_deeper u v us vs x y same (inr (inl later)) = inr (inl (later.0, λ i. sym same i ∷ later.1 i))
one_deeper u v us vs x y same (inr (inr later)) = inr (inr (later.0, λ i. same i ∷ later.1 i))

pub two_cuts : {X : Type 0} (front : List X) (x : X) (behind other : List X) (y : X) (rest : List X)
    → front ++ x ∷ behind ≡ other ++ y ∷ rest
    → Cuts front x other y
two_cuts [] x behind [] y rest e = inl (refl, head_same x y behind rest e)
two_cuts [] x behind (v ∷ vs) y rest e = inr (inl (
  vs,
  λ i. sym (head_same x v behind (vs ++ y ∷ rest) e) i ∷ vs,
))
two_cuts (u ∷ us) x behind [] y rest e = inr (inr (
  us,
  λ i. head_same u y (us ++ x ∷ behind) rest e i ∷ us,
))
two_cuts (u ∷ us) x behind (v ∷ vs) y rest e =
    one_deeper u v us vs x y (head_same u v (us ++ x ∷ behind) (vs ++ y ∷ rest) e)
    (two_cuts us x behind vs y rest (tail_same u v (us ++ x ∷ behind) (vs ++ y ∷ rest) e))
