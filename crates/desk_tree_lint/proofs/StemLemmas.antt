-- Where the last full stop of a name is.
use Rattle.std.proofs.Common.{◌≡◌, ◌≢◌, ◌∙◌, inl, inr, ℕ, zero, suc, ◌<◌, false, cond, eqb}
use Rattle.std.proofs.Common.{List, get_or, ap, sym, refl, arith, Some, None}
use Rattle.std.specs.Path.{rfind_below}
use Rattle.std.proofs.lemmas.Bool.{cases_Bool, eq-eqb}
use Rattle.std.proofs.lemmas.Bool.Decides.{nat_tests}

other : (a b : ℕ) → a ≢ b → eqb a b ≡ false
other a b differ = grind (arith, nat_tests)

pub none_below : (c : ℕ) (text : List ℕ) (n : ℕ) → ((i : ℕ) → i < n → get_or text i 0 ≢ c)
    → rfind_below c text n ≡ None
none_below c text zero none = refl
none_below c text (suc m) none =
    ap (λ b. cond b (Some m) (rfind_below c text m))
    (other (get_or text m 0) c (none m (omega arith)))
    ∙ none_below c text m (λ i within. none i (omega (arith, within)))

pub last_below : (c : ℕ) (text : List ℕ) (n k : ℕ) → k < n → get_or text k 0 ≡ c
    → ((i : ℕ) → k < i → i < n → get_or text i 0 ≢ c) → rfind_below c text n ≡ Some k
last_below c text zero k within is later = absurd (omega (arith, within))
last_below c text (suc m) k within is later =
    elim (cases_Bool (eqb k m)) [
      | inl at ↦
          let here : k ≡ m = grind (arith, nat_tests, at) in
          ap (λ b. cond b (Some m) (rfind_below c text m))
          (eq-eqb (get_or text m 0) c (ap (λ j. get_or text j 0) (sym here) ∙ is))
          ∙ ap Some (sym here)
      | inr before ↦
          let below : k < m = grind (arith, nat_tests, before, within) in
          ap (λ b. cond b (Some m) (rfind_below c text m))
          (other (get_or text m 0) c (later m below (omega arith)))
          ∙ last_below c text m k below is (λ i above low. later i above (omega (arith, low)))
    ]
