-- Bits that say for which candidates a fact holds.
use Rattle.std.proofs.Common.{◌≡◌, ◌↔◌, ◌∙◌, ◌⊎◌, inl, inr, ℕ, zero, suc, ◌+◌, ◌<◌, ◌≤◌, ◌^◌, max}
use Rattle.std.proofs.Common.{◌*◌, ◌%◌, ⊎_elim, List, length, drop, get_or, sym, ap, refl}
use Rattle.std.proofs.Common.{arith, Some}
use Rattle.std.specs.Prelude.{slice_get, ◌≢◌, bit_and, bit_or}
use Rattle.std.specs.Int.{bit_at}
use Rattle.std.proofs.lemmas.Nat.Bits.{bit_at_and, bit_at_or, bit_at-lt, bit_at_ones, bit_at_set_same, bit_at_set_other}
use Rattle.std.proofs.str.Laws.{order}
use Rattle.std.specs.Int.{w64}
use Rattle.desk_base.proofs.Lists.{item_at}
use mir.Val.{bits}
use Rattle.desk_expr.specs.declared.term.Term.{Term}
use Rattle.desk_expr.specs.Tree.{Tree, parts_of}
use Rattle.desk_expr.specs.Meaning.{Holds, AllHold, SomeHolds}
use Rattle.desk_alts.proofs.Parts.{all_hold-drop, some_holds-drop}

-- ---- one bit

pub both_set : (a b k : ℕ) → (bit_at (bit_and a b) k ≡ 1) ↔ ((bit_at a k ≡ 1) × (bit_at b k ≡ 1))
both_set a b k =
    let is = bit_at_and a b k in
    let low = bit_at-lt a k in
    let low' = bit_at-lt b k in (
      (λ h. (omega (arith, h, is, low, low'), omega (arith, h, is, low, low'))),
      (λ h. omega (arith, h.0, h.1, is)),
    )

either_set_from : (a b : ℕ) → a < 2 → b < 2 → max a b ≡ 1 → (a ≡ 1) ⊎ (b ≡ 1)
either_set_from zero b low low' h = inr (omega arith)
either_set_from (suc zero) b low low' h = inl refl
either_set_from (suc (suc a)) b low low' h = absurd (omega arith)

pub either_set : (a b k : ℕ) → (bit_at (bit_or a b) k ≡ 1) ↔ ((bit_at a k ≡ 1) ⊎ (bit_at b k ≡ 1))
either_set a b k =
    let is = bit_at_or a b k in
    let low = bit_at-lt a k in
    let low' = bit_at-lt b k in (
      (λ h. either_set_from (bit_at a k) (bit_at b k) low low' (sym is ∙ h)),
      (λ h. elim h [
        | inl x ↦ omega (arith, x, is, low, low')
        | inr y ↦ omega (arith, y, is, low, low')
      ]),
    )

pub ones_set : (n k : ℕ) → n ≤ 64 → k < n → bit_at 18446744073709551615 k ≡ 1
ones_set n k few within = bit_at_ones 64 k (omega arith)

-- ---- the parts of a node

pub all_marked : (set : Term → Type 0) (parts : List Tree) (i : ℕ) (d : Tree) (marks more k : ℕ)
    → i < length parts
    → (AllHold set (parts_of parts)
    ↔ ((bit_at marks k ≡ 1) × AllHold set (parts_of (drop i parts))))
    → ((bit_at more k ≡ 1) ↔ Holds set (get_or parts i d))
    → AllHold set (parts_of parts)
    ↔ ((bit_at (bit_and marks more) k ≡ 1) × AllHold set (parts_of (drop (i + 1) parts)))
all_marked set parts i d marks more k within so_far here =
    let first = all_hold-drop set parts i d within in
    let bits = both_set marks more k in (
      (λ h. let a = so_far.0 h in let b = first.0 a.1 in (bits.1 (a.0, here.1 b.0), b.1)),
      (λ h. let a = bits.0 h.0 in so_far.1 (a.0, first.1 (here.0 a.1, h.1))),
    )

pub some_marked : (set : Term → Type 0) (parts : List Tree) (i : ℕ) (d : Tree) (marks more k : ℕ)
    → i < length parts
    → (SomeHolds set (parts_of parts)
    ↔ ((bit_at marks k ≡ 1) ⊎ SomeHolds set (parts_of (drop i parts))))
    → ((bit_at more k ≡ 1) ↔ Holds set (get_or parts i d))
    → SomeHolds set (parts_of parts)
    ↔ ((bit_at (bit_or marks more) k ≡ 1) ⊎ SomeHolds set (parts_of (drop (i + 1) parts)))
some_marked set parts i d marks more k within so_far here =
    let first = some_holds-drop set parts i d within in
    let bits = either_set marks more k in (
      (λ h. elim (so_far.0 h) [
        | inl a ↦ inl (bits.1 (inl a))
        | inr b ↦ elim (first.0 b) [ inl x ↦ inl (bits.1 (inr (here.1 x))) | inr y ↦ inr y ]
      ]),
      (λ h. elim h [
        | inl a ↦ elim (bits.0 a) [
          | inl x ↦ so_far.1 (inl x)
          | inr y ↦ so_far.1 (inr (first.1 (inl (here.0 y))))
        ]
        | inr b ↦ so_far.1 (inr (first.1 (inr b)))
      ]),
    )

-- ---- one candidate after another

-- what the bits below a place say
abbrev pub ToldBelow : List Term → List ℕ → Term → ℕ → ℕ → Type 0
ToldBelow chosen candidates term marks k = (j place : ℕ) (gone : Term) → j < k
    → slice_get candidates j ≡ Some place → slice_get chosen place ≡ Some gone
    → (bit_at marks j ≡ 1) ↔ (term ≢ gone)

abbrev pub UnsetFrom : ℕ → ℕ → Type 0
UnsetFrom marks k = (j : ℕ) → k < j + 1 → bit_at marks j ≡ 0

pub same_item : {X : Type 0} (xs : List X) (i j : ℕ) (x y : X) → i ≡ j → slice_get xs i ≡ Some x
    → slice_get xs j ≡ Some y → x ≡ y
same_item xs i j x y same at at' = let is : slice_get xs i ≡ slice_get xs j =
    ap (slice_get xs) same in cc

pub told_set : (chosen : List Term) (candidates : List ℕ) (term item : Term) (place marks k : ℕ)
    → k < 64 → slice_get candidates k ≡ Some place → slice_get chosen place ≡ Some item
    → (term ≢ item) → ToldBelow chosen candidates term marks k
    → ToldBelow chosen candidates term (bit_or marks (1 * 2 ^ k % 2 ^ bits w64)) (k + 1)
told_set chosen candidates term item place marks k low at item_at other told j place' gone within
    at' gone_at =
    ⊎_elim
    (λ below. let ne : j ≢ k = omega arith in
    rw (bit_at_set_other w64 marks k low j ne) (told j place' gone below at' gone_at))
    (λ above.
    let is : j ≡ k = omega arith in
    let set : bit_at (bit_or marks (1 * 2 ^ k % 2 ^ bits w64)) j ≡ 1 =
    ap (bit_at (bit_or marks (1 * 2 ^ k % 2 ^ bits w64))) is ∙ bit_at_set_same w64 marks k low in
    let same : item ≡ gone = same_item chosen place place' item gone
    (same_item candidates k j place place' (sym is) at at') item_at gone_at in
    ((λ h e. other (e ∙ sym same)), (λ h. set)))
    (order j k)

pub told_kept : (chosen : List Term) (candidates : List ℕ) (term item : Term) (place marks k : ℕ)
    → slice_get candidates k ≡ Some place → slice_get chosen place ≡ Some item → term ≡ item
    → ToldBelow chosen candidates term marks k → UnsetFrom marks k
    → ToldBelow chosen candidates term marks (k + 1)
told_kept chosen candidates term item place marks k at item_at is told unset j place' gone within
    at' gone_at =
    ⊎_elim
    (λ below. told j place' gone below at' gone_at)
    (λ above.
    let j_is : j ≡ k = omega arith in
    let zero_bit : bit_at marks j ≡ 0 = unset j (omega arith) in
    let same : item ≡ gone = same_item chosen place place' item gone
    (same_item candidates k j place place' (sym j_is) at at') item_at gone_at in
    ((λ h. absurd (omega (arith, h, zero_bit))), (λ h. absurd (h (is ∙ same)))))
    (order j k)

pub unset_set : (marks k : ℕ) → k < 64 → UnsetFrom marks k
    → UnsetFrom (bit_or marks (1 * 2 ^ k % 2 ^ bits w64)) (k + 1)
unset_set marks k low unset j above =
    let ne : j ≢ k = omega arith in
    rw (bit_at_set_other w64 marks k low j ne) (unset j (omega arith))
