-- Facts that can be decided, and searches.
use Rattle.std.proofs.Common.{◌≡◌, ◌↔◌, ◌⊎◌, inl, inr, ℕ, zero, suc, ◌<◌, ◌≤◌, subst, arith}
use Rattle.std.proofs.str.Laws.{order}
use Rattle.desk_expr.specs.Meaning.{IsFirst}

-- it holds or fails
abbrev pub Decided : Type 0 → Type 0
Decided P = P ⊎ (P → ⊥)

-- it holds for something, or for nothing
abbrev pub SomeOrNone : {A : Type 0} → (A → Type 0) → Type 0
SomeOrNone {A} P = ((a : A) × P a) ⊎ ((a : A) → P a → ⊥)

pub some_by : {A : Type 0} (P Q : A → Type 0) → ((a : A) → P a ↔ Q a) → SomeOrNone Q → SomeOrNone P
some_by P Q same (inl found) = inl (found.0, (same found.0).1 found.1)
some_by P Q same (inr none) = inr (λ a h. none a ((same a).0 h))

pub decided_both : (P Q : Type 0) → Decided P → Decided Q → Decided (P × Q)
decided_both P Q (inl p) (inl q) = inl (p, q)
decided_both P Q (inl p) (inr n) = inr (λ h. n h.1)
decided_both P Q (inr n) q = inr (λ h. n h.0)

pub decided_not : (P : Type 0) → Decided P → Decided (P → ⊥)
decided_not P (inl p) = inr (λ n. n p)
decided_not P (inr n) = inl n

pub decided_le : (n m : ℕ) → Decided (n ≤ m)
decided_le n m = elim (order m n)
    [ inl more ↦ inr (λ few. absurd (omega (arith, more, few))) | inr few ↦ inl few ]

-- the first place below a bound at which a fact holds, or none
pub first_below : (P : ℕ → Type 0) → ((k : ℕ) → Decided (P k)) → (n : ℕ)
    → ((i : ℕ) × IsFirst P i) ⊎ ((k : ℕ) → k < n → P k → ⊥)
first_below P known zero = inr (λ k low h. absurd (omega (arith, low)))
first_below P known (suc n) = next (first_below P known n) (known n)
  where
    next : ((i : ℕ) × IsFirst P i) ⊎ ((k : ℕ) → k < n → P k → ⊥) → Decided (P n)
        → ((i : ℕ) × IsFirst P i) ⊎ ((k : ℕ) → k < suc n → P k → ⊥)
    next (inl found) here = inl found
    next (inr none) (inl holds) = inl (n, (holds, none))
    next (inr none) (inr fails) = inr (λ k low h. elim (order k n) [
      | inl below ↦ none k below h
      | inr above ↦ let is : k ≡ n = omega (arith, low, above) in fails (subst P is h)
    ])

-- whether a fact holds everywhere can be decided if it can at each place, and if it holds at each
-- place after a bound provided that it holds at the bound
pub decided_all : (P : ℕ → Type 0) → ((k : ℕ) → Decided (P k)) → (n : ℕ)
    → ((k : ℕ) → n ≤ k → P n → P k) → Decided ((k : ℕ) → P k)
decided_all P known n later = elim (first_below (λ k. P k → ⊥) (λ k. decided_not (P k) (known k))
    (suc n)) [
      | inl found ↦ inr (λ holds. found.1.0 (holds found.0))
      | inr none ↦ inl (λ k. elim (order k n) [
        | inl below ↦ holds none k (omega (arith, below))
        | inr above ↦ later k above (holds none n (omega arith))
      ])
    ]
  where
    holds : ((k : ℕ) → k < suc n → (P k → ⊥) → ⊥) → (k : ℕ) → k < suc n → P k
    holds none k low = elim (known k) [ inl h ↦ h | inr fails ↦ absurd (none k low fails) ]

pub same_first : (P : ℕ → Type 0) (i j : ℕ) → IsFirst P i → IsFirst P j → i ≡ j
same_first P i j (here, none) (there, none') =
    elim (order i j) [
      | inl before ↦ absurd (none' i before here)
      | inr from ↦ elim (order j i)
          [ inl before ↦ absurd (none j before there) | inr until ↦ omega (arith, from, until) ]
    ]
