-- Rows that pass a test, with one more row.
use Rattle.std.proofs.Common.{◌≡◌, ◌∙◌, ℕ, ◌+◌, ◌<◌, Bool, true, false, cond, List, [], ◌∷◌, ◌++◌}
use Rattle.std.proofs.Common.{length, take, get_or, sym, ap}
use Rattle.std.specs.Prelude.{filter}
use Rattle.std.proofs.lemmas.List.{append-nil}
use Rattle.std.proofs.lemmas.List.Elements.{filter_more}

more : {X : Type 0} (p : X → Bool) (xs : List X) (i : ℕ) (x : X) (b : Bool) → i < length xs
    → x ≡ get_or xs i x → p x ≡ b
    → filter p (take (i + 1) xs) ≡ filter p (take i xs) ++ cond b (x ∷ []) []
more {X} p xs i x b within is tested =
    filter_more p xs i x within
    ∙ (ap (λ (y : X). filter p (take i xs) ++ cond (p y) (y ∷ []) []) (sym is)
    ∙ ap (λ b. filter p (take i xs) ++ cond b (x ∷ []) []) tested)

-- it passes
pub kept_next : {X : Type 0} (p : X → Bool) (xs : List X) (i : ℕ) (x : X) → i < length xs
    → x ≡ get_or xs i x → p x ≡ true → filter p (take (i + 1) xs) ≡ filter p (take i xs) ++ x ∷ []
kept_next p xs i x within is passes = more p xs i x true within is passes

-- it doesn't
pub left_next : {X : Type 0} (p : X → Bool) (xs : List X) (i : ℕ) (x : X) → i < length xs
    → x ≡ get_or xs i x → p x ≡ false → filter p (take (i + 1) xs) ≡ filter p (take i xs)
left_next p xs i x within is fails = more p xs i x false within is fails
    ∙ append-nil (filter p (take i xs))
