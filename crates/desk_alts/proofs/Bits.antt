-- When a number has no bit outside another.
use Rattle.std.proofs.Common.{◌≡◌, ◌↔◌, ◌∙◌, ⊎_elim, ℕ, zero, suc, ◌-◌, ◌<◌, ◌≤◌, ◌^◌, ◌≢◌, min}
use Rattle.std.proofs.Common.{max, ◌*◌, ◌%◌, inl, inr, sym, ap, refl, arith, bit_and, bit_or}
use Rattle.std.specs.Int.{bit_at, bit_not, w64}
use Rattle.std.proofs.lemmas.Nat.Bits.{bit_at_and, bit_at_or, bit_at-lt, bit_at-zero, bit_at_not}
use Rattle.std.proofs.lemmas.Nat.Bits.{bit_at_above, same_from_bits, bit_at_set_same}
use Rattle.std.proofs.lemmas.Nat.Bits.{bit_at_set_other}
use Rattle.std.proofs.lemmas.Bool.{cases_eq}
use Rattle.std.proofs.str.Laws.{order}
use Rattle.desk_alts.specs.Masks.{IsWithin}

-- a bit that is set only if another one is
bit_le : (x y : ℕ) → x < 2 → y < 2 → (x ≡ 1 → y ≡ 1) → x ≤ y
bit_le zero y low low' h = omega arith
bit_le (suc zero) y low low' h = let e = h refl in omega (arith, e)
bit_le (suc (suc x)) y low low' h = absurd (omega arith)

-- the test `a & b == a`
pub and_same : (a b : ℕ) → (bit_and a b ≡ a) ↔ IsWithin a b
and_same a b = (
  (λ same k set.
      let is = bit_at_and a b k in
      let whole : bit_at (bit_and a b) k ≡ bit_at a k = ap (λ x. bit_at x k) same in
      let low = bit_at-lt b k in
      omega (arith, is, whole, set, low)),
  (λ within. same_from_bits (bit_and a b) a
      (λ k.
      let is = bit_at_and a b k in
      let low = bit_at-lt a k in
      let low' = bit_at-lt b k in
      let here = bit_le _ _ low low' (within k) in
      omega (arith, is, here))),
)

-- the test `a & !b == 0`
pub and_not_none : (a b : ℕ) → a < 2 ^ 64 → b < 2 ^ 64
    → (bit_and a (bit_not w64 b) ≡ 0) ↔ IsWithin a b
and_not_none a b small small' = (
  (λ none k set.
      ⊎_elim
      (λ below.
      let is = bit_at_and a (bit_not w64 b) k in
      let flip = bit_at_not w64 b k small' below in
      let empty : bit_at (bit_and a (bit_not w64 b)) k ≡ 0 = ap (λ x. bit_at x k) none
      ∙ bit_at-zero k in
      let low = bit_at-lt b k in
      bit_from_min (bit_at a k) (bit_at b k) (bit_at (bit_not w64 b) k) _ is flip empty set low)
      (λ above. absurd (let unset = bit_at_above a 64 k small above in omega (arith, unset, set)))
      (order k 64)),
  (λ within. same_from_bits (bit_and a (bit_not w64 b)) 0
      (λ k.
      bit_at_and a (bit_not w64 b) k
      ∙ ⊎_elim
      (λ below. min_none (bit_at a k) (bit_at b k) (bit_at (bit_not w64 b) k)
      (bit_at_not w64 b k small' below) (bit_le _ _ (bit_at-lt a k) (bit_at-lt b k) (within k))
      (bit_at-lt b k))
      (λ above. let unset = bit_at_above a 64 k small above in min_left_none (bit_at a k) _ unset)
      (order k 64)
      ∙ sym (bit_at-zero k))),
) where
  bit_from_min : (x y n m : ℕ) → m ≡ min x n → n ≡ 1 - y → m ≡ 0 → x ≡ 1 → y < 2 → y ≡ 1
  bit_from_min x y n m is flip empty set low = omega arith

  min_none : (x y n : ℕ) → n ≡ 1 - y → x ≤ y → y < 2 → min x n ≡ 0
  min_none x y n flip le low = omega arith

  min_left_none : (x n : ℕ) → x ≡ 0 → min x n ≡ 0
  min_left_none x n none = omega arith

pub or_none : (x y : ℕ) → (bit_or x y ≡ 0) ↔ ((x ≡ 0) × (y ≡ 0))
or_none x y = (
  (λ none. (
    same_from_bits x 0 (λ k. max_none_left (bit_at x k) (bit_at y k) (bit_at 0 k)
        (sym (bit_at_or x y k) ∙ ap (λ n. bit_at n k) none) (bit_at-zero k)),
    same_from_bits y 0 (λ k. max_none_right (bit_at x k) (bit_at y k) (bit_at 0 k)
        (sym (bit_at_or x y k) ∙ ap (λ n. bit_at n k) none) (bit_at-zero k)),
  )),
  (λ both. same_from_bits (bit_or x y) 0
      (λ k. bit_at_or x y k ∙ max_none (bit_at x k) (bit_at y k) (bit_at 0 k)
      (ap (λ n. bit_at n k) both.0) (ap (λ n. bit_at n k) both.1))),
) where
  max_none_left : (a b z : ℕ) → max a b ≡ z → z ≡ 0 → a ≡ z
  max_none_left a b z is none = omega arith

  max_none_right : (a b z : ℕ) → max a b ≡ z → z ≡ 0 → b ≡ z
  max_none_right a b z is none = omega arith

  max_none : (a b z : ℕ) → a ≡ z → b ≡ z → max a b ≡ z
  max_none a b z p q = omega arith

-- a union is within a set if and only if both parts are
pub or_within : (x y m : ℕ) → IsWithin (bit_or x y) m ↔ (IsWithin x m × IsWithin y m)
or_within x y m = (
  (λ h. (
    (λ k set. h k (let is = bit_at_or x y k in let low = bit_at-lt y k in
        omega (arith, is, set, low))),
    (λ k set. h k (let is = bit_at_or x y k in let low = bit_at-lt x k in
        omega (arith, is, set, low))),
  )),
  (λ both k set.
      let is = bit_at_or x y k in
      let low = bit_at-lt m k in
      let left = bit_le _ _ (bit_at-lt x k) low (both.0 k) in
      let right = bit_le _ _ (bit_at-lt y k) low (both.1 k) in
      omega (arith, is, set, low, left, right)),
)

-- the number `1 << k`
bit_of_one_same : (k : ℕ) → k < 64 → bit_at (1 * 2 ^ k % 2 ^ 64) k ≡ 1
bit_of_one_same k low =
    let set = bit_at_set_same w64 0 k low in
    let is = bit_at_or 0 (1 * 2 ^ k % 2 ^ 64) k in
    let none = bit_at-zero k in
    right_of_max (bit_at 0 k) (bit_at (1 * 2 ^ k % 2 ^ 64) k)
    (bit_at (bit_or 0 (1 * 2 ^ k % 2 ^ 64)) k) 1 is set none
  where
    right_of_max : (a b m n : ℕ) → m ≡ max a b → m ≡ n → a ≡ 0 → b ≡ n
    right_of_max a b m n is same none = omega arith

bit_of_one_other : (k i : ℕ) → k < 64 → i ≢ k → bit_at (1 * 2 ^ k % 2 ^ 64) i ≡ 0
bit_of_one_other k i low ne =
    let set = bit_at_set_other w64 0 k low i ne in
    let is = bit_at_or 0 (1 * 2 ^ k % 2 ^ 64) i in
    let none = bit_at-zero i in
    right_of_max (bit_at 0 i) (bit_at (1 * 2 ^ k % 2 ^ 64) i)
    (bit_at (bit_or 0 (1 * 2 ^ k % 2 ^ 64)) i) is set none
  where
    right_of_max : (a b m : ℕ) → m ≡ max a b → m ≡ a → a ≡ 0 → b ≡ 0
    right_of_max a b m is same none = omega arith

pub one_within : (k n : ℕ) → k < 64 → IsWithin (1 * 2 ^ k % 2 ^ 64) n ↔ (bit_at n k ≡ 1)
one_within k n low = (
  (λ h. h k (bit_of_one_same k low)),
  (λ set i there.
      elim (cases_eq i k) [
        | inl same ↦ ap (bit_at n) same ∙ set
        | inr other ↦ absurd (let none = bit_of_one_other k i low other in
            omega (arith, none, there))
      ]),
)

pub none_within : (n : ℕ) → IsWithin 0 n
none_within n k set = absurd (let none = bit_at-zero k in omega (arith, none, set))
