-- Lists with more behind them: what was found in a list stays found, and what comes last is found.
use Rattle.std.proofs.Common.{◌≡◌, ◌∙◌, ℕ, zero, suc, ◌+◌, Bool, true, false, List, [], ◌∷◌, ◌++◌}
use Rattle.std.proofs.Common.{slice_get, length, Some, None, refl, ap, ap₂, arith}
use Rattle.std.specs.Prelude.{◌&&◌, find}
use Rattle.std.specs.Option.{option_or}
use Rattle.std.specs.List.{AllByRecursion, list_all, position_from}
use Rattle.std.proofs.lemmas.List.Folds.{find-append, list_all-append}

module _ {X : Type 0} (p : X → Bool) where
  pub find_more : (xs ys : List X) (x : X) → find p xs ≡ Some x → find p (xs ++ ys) ≡ Some x
  find_more xs ys x is = find-append p xs ys ∙ ap (λ o. option_or o (find p ys)) is

  find_none : (xs : List X) → AllByRecursion (λ y. p y ≡ false) xs → find p xs ≡ None
  find_none [] none = refl
  find_none (x ∷ xs) none = rw none.0 (find_none xs none.1)

  pub find_last : (xs : List X) (x : X) → AllByRecursion (λ y. p y ≡ false) xs → p x ≡ true
      → find p (xs ++ x ∷ []) ≡ Some x
  find_last xs x none is = find-append p xs (x ∷ [])
      ∙ ap (λ o. option_or o (find p (x ∷ []))) (find_none xs none) ∙ rw is refl

  pub place_more : (xs ys : List X) (i k : ℕ) → position_from p i xs ≡ Some k
      → position_from p i (xs ++ ys) ≡ Some k
  place_more [] ys i k h = absurd (cc)
  place_more (x ∷ xs) ys i k h = go (p x) refl (place_more xs ys (i + 1) k)
    where
      go : (b : Bool) → p x ≡ b
          → (position_from p (i + 1) xs ≡ Some k → position_from p (i + 1) (xs ++ ys) ≡ Some k)
          → position_from p i (x ∷ xs ++ ys) ≡ Some k
      go true is more = rw is (rw is at h)
      go false is more = rw is (more (rw is at h))

  pub place_last : (xs : List X) (x : X) (i : ℕ) → position_from p i xs ≡ None → p x ≡ true
      → position_from p i (xs ++ x ∷ []) ≡ Some (i + length xs)
  place_last [] x i none is = let e : i ≡ i + 0 = omega arith in rw is (ap Some e)
  place_last (y ∷ xs) x i none is = go (p y) refl (λ none. place_last xs x (i + 1) none is)
    where
      go : (b : Bool) → p y ≡ b → (position_from p (i + 1) xs ≡ None
          → position_from p (i + 1) (xs ++ x ∷ []) ≡ Some (i + 1 + length xs))
          → position_from p i (y ∷ xs ++ x ∷ []) ≡ Some (i + length (y ∷ xs))
      go true at more = absurd (let e = rw at at none in cc)
      go false at more =
          let e : i + 1 + length xs ≡ i + suc (length xs) = omega arith in
          rw at (more (rw at at none) ∙ ap Some e)

  pub all_both : (xs ys : List X) → list_all p xs ≡ true → list_all p ys ≡ true
      → list_all p (xs ++ ys) ≡ true
  all_both xs ys one other = list_all-append p xs ys ∙ ap₂ (λ a b. a && b) one other

pub got_more : {X : Type 0} (xs ys : List X) (k : ℕ) (x : X) → slice_get xs k ≡ Some x
    → slice_get (xs ++ ys) k ≡ Some x
got_more [] ys k x h = absurd (cc)
got_more (z ∷ xs) ys zero x h = h
got_more (z ∷ xs) ys (suc k) x h = got_more xs ys k x h

pub got_last : {X : Type 0} (xs : List X) (x : X) → slice_get (xs ++ x ∷ []) (length xs) ≡ Some x
got_last [] x = refl
got_last (z ∷ xs) x = got_last xs x
