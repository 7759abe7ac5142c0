-- Facts about numbers.
use Rattle.std.proofs.Common.{◌≡◌, ◌≢◌, ◌⊎◌, inl, inr, ℕ, ◌<◌, ◌≤◌, List, ◌∷◌, arith, true, false, ⊎_elim}
use Rattle.std.specs.Prelude.{All, ◌==◌, nat_le, nat_lt}
use Rattle.std.proofs.str.Laws.{order}
use Rattle.std.proofs.lemmas.List.Elements.{All-get_or}
use Rattle.std.proofs.lemmas.Bool.Decides.{nat_tests}

pub numbers_equal : (a b : ℕ) → (a == b) ≡ true → a ≡ b
numbers_equal a b e = grind (arith, nat_tests)

pub same_number : (a : ℕ) → (a == a) ≡ true
same_number a = grind (arith, nat_tests)

pub not_less : (a b : ℕ) → b ≤ a → nat_lt a b ≡ false
not_less a b le = grind (arith, nat_tests)

pub three : (m n : ℕ) → (m < n) ⊎ ((n < m) ⊎ (m ≡ n))
three m n = ⊎_elim (λ lt. inl lt)
    (λ le. ⊎_elim (λ lt. inr (inl lt)) (λ ge. inr (inr (omega arith))) (order n m)) (order m n)

pub head_not : (c d : ℕ) (a : List ℕ) → All (λ b. b ≢ c) (d ∷ a) → d ≢ c
head_not c d a h = All-get_or (λ b. b ≢ c) (d ∷ a) 0 0 (omega arith) h

pub le_is : (a b : ℕ) → nat_le a b ≡ true → a ≤ b
le_is a b is = grind (arith, nat_tests)

pub unequal : (a b : ℕ) → (a ≡ b → ⊥) → (a == b) ≡ false
unequal a b apart = grind (arith, nat_tests)

pub equal_turned : (a b : ℕ) → (a == b) ≡ (b == a)
equal_turned a b = grind (arith, nat_tests)
