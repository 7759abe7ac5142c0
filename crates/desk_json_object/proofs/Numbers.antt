-- A number's text with a minus sign before it, and without.
use Rattle.std.proofs.Common.{◌≡◌, ℕ, ◌==◌, List, [], ◌∷◌, true, false, length, refl, arith}
use Rattle.fast_float.specs.Text.{scan}
use Rattle.serde_json.specs.Read.{number_of, number_from}

pub number_of-minus : (text digits : List ℕ) (first : ℕ) → text ≡ first ∷ digits
    → (first == 45) ≡ true → number_from true (scan digits) ≡ number_of text
unfolding number_of
number_of-minus text digits first is minus = rw (is, minus) refl

pub number_of-other : (text digits : List ℕ) (first : ℕ) → text ≡ first ∷ digits
    → (first == 45) ≡ false → number_from false (scan text) ≡ number_of text
unfolding number_of
number_of-other text digits first is other = rw (is, other) refl

pub number_of-empty : (text : List ℕ) → length text ≡ 0
    → number_from false (scan text) ≡ number_of text
unfolding number_of
number_of-empty [] none = refl
number_of-empty (first ∷ digits) none = absurd (omega arith)
