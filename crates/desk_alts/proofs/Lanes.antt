-- What eight lanes of two columns show.
use Rattle.std.proofs.Common.{◌≡◌, ◌↔◌, ◌∙◌, ℕ, zero, suc, ◌+◌, ◌-◌, ◌*◌, ◌%◌, ◌<◌, ◌≤◌, ◌^◌, eqb}
use Rattle.std.proofs.Common.{cond, Bool, true, false, not, IsTrue, List, [], ◌∷◌, map, length}
use Rattle.std.proofs.Common.{get_or, replicate, sym, ap, ap₂, refl, arith, bit_and, bit_or}
use Rattle.std.specs.Int.{bit_at, bit_not, w64}
use Rattle.std.proofs.lemmas.Bool.{eqb-true, eq-eqb, ne_eqb}
use Rattle.std.proofs.lemmas.Simd.{length-zip2, get_or-zip2, length-chunk, get_or-chunk}
use Rattle.std.proofs.lemmas.Simd.{bitmask_splat, get_or-replicate}
use lib.Lanes.{chunk, zip2, mask_l, top}
use Rattle.desk_alts.specs.Masks.{IsCoveredBetween}
use Rattle.desk_alts.proofs.Bits.{and_not_none, or_none}

abbrev bit_of : Bool → ℕ
bit_of b = cond b 1 0

some_first : (p : ℕ → Bool) (x : ℕ) (xs : List ℕ) (b : Bool) → p x ≡ b
    → (bit_of b + 2 * mask_l (map p xs) ≡ 0 → ⊥)
    → ((mask_l (map p xs) ≡ 0 → ⊥) → (j : ℕ) × (j < length xs) × (p (get_or xs j 0) ≡ true))
    → (j : ℕ) × (j < length (x ∷ xs)) × (p (get_or (x ∷ xs) j 0) ≡ true)
some_first p x xs true is some more = (0, omega arith, is)
some_first p x xs false is some more =
    let rest = more (λ none. some (omega (arith, none))) in
    (suc rest.0, omega (arith, rest.1), rest.2)

pub mask_some : (p : ℕ → Bool) (xs : List ℕ) → (mask_l (map p xs) ≡ 0 → ⊥)
    → (j : ℕ) × (j < length xs) × (p (get_or xs j 0) ≡ true)
mask_some p [] some = absurd (some refl)
mask_some p (x ∷ xs) some = some_first p x xs (p x) refl some (mask_some p xs)

pub mask_none : (p : ℕ → Bool) (xs : List ℕ) (j : ℕ) → j < length xs → p (get_or xs j 0) ≡ true
    → mask_l (map p xs) ≡ 0 → ⊥
mask_none p [] j within set none = absurd (omega arith)
mask_none p (x ∷ xs) zero within set none =
    let bit : bit_of (p x) ≡ 1 = ap bit_of set in
    omega (arith, none, bit)
mask_none p (x ∷ xs) (suc j) within set none = mask_none p xs j (omega arith) set
    (omega (arith, none))

-- the lanes of the places outside (low, high)
abbrev pub outside : ℕ → ℕ → List ℕ → List ℕ → ℕ → List ℕ
outside low high lows highs at =
    zip2 bit_or (zip2 bit_and (chunk at 8 lows) (replicate 8 (bit_not w64 low)))
    (zip2 bit_and (chunk at 8 highs) (replicate 8 (bit_not w64 high)))

long_outside : (low high : ℕ) (lows highs : List ℕ) (at : ℕ) → at + 8 ≤ length lows
    → at + 8 ≤ length highs → length (outside low high lows highs at) ≡ 8
long_outside low high lows highs at room room' =
    let a = length-zip2 bit_and (chunk at 8 lows) (replicate 8 (bit_not w64 low))
    (length-chunk at 8 lows room) ∙ length-chunk at 8 lows room in
    let b = length-zip2 bit_and (chunk at 8 highs) (replicate 8 (bit_not w64 high))
    (length-chunk at 8 highs room') ∙ length-chunk at 8 highs room' in
    length-zip2 bit_or _ _ (a ∙ sym b) ∙ a

lane : (low high : ℕ) (lows highs : List ℕ) (at j : ℕ) → at + 8 ≤ length lows
    → at + 8 ≤ length highs → j < 8
    → get_or (outside low high lows highs at) j 0
    ≡ bit_or (bit_and (get_or lows (at + j) 0) (bit_not w64 low))
    (bit_and (get_or highs (at + j) 0) (bit_not w64 high))
lane low high lows highs at j room room' few =
    let la = length-chunk at 8 lows room in
    let lb = length-chunk at 8 highs room' in
    let a = length-zip2 bit_and (chunk at 8 lows) (replicate 8 (bit_not w64 low)) la ∙ la in
    let b = length-zip2 bit_and (chunk at 8 highs) (replicate 8 (bit_not w64 high)) lb ∙ lb in
    get_or-zip2 bit_or _ _ j 0 0 0 (omega (arith, a)) (omega (arith, b))
    ∙ ap₂ bit_or
    (get_or-zip2 bit_and (chunk at 8 lows) (replicate 8 (bit_not w64 low)) j 0 0 0
    (omega (arith, la)) few
    ∙ ap₂ bit_and (get_or-chunk at 8 lows j 0 few) (get_or-replicate 8 j (bit_not w64 low) 0 few))
    (get_or-zip2 bit_and (chunk at 8 highs) (replicate 8 (bit_not w64 high)) j 0 0 0
    (omega (arith, lb)) few
    ∙ ap₂ bit_and (get_or-chunk at 8 highs j 0 few) (get_or-replicate 8 j (bit_not w64 high) 0 few))

not_zero : (m : ℕ) → m ≡ 0 → IsTrue (not (eqb m 0)) → ⊥
not_zero m is set = let e : not (eqb m 0) ≡ false = ap (λ x. not (eqb x 0)) is in cc

is_set : (m : ℕ) → (m ≡ 0 → ⊥) → IsTrue (not (eqb m 0))
is_set m some = rw (ne_eqb m 0 some) refl

pub lanes_tell : (low high : ℕ) (lows highs : List ℕ) (at : ℕ) → at + 8 ≤ length lows
    → at + 8 ≤ length highs
    → low < 2 ^ 64 → high < 2 ^ 64 → ((k : ℕ) → get_or lows k 0 < 2 ^ 64)
    → ((k : ℕ) → get_or highs k 0 < 2 ^ 64)
    → IsTrue (not (eqb (mask_l (map (top 63)
    (zip2 (λ a b. cond (eqb a b) (2 ^ 64 - 1) 0) (outside low high lows highs at) (replicate 8 0)))
    % 2 ^ 64) 0))
    ↔ IsCoveredBetween low high lows highs at (at + 8)
lanes_tell low high lows highs at room room' small small' all_small all_small' =
    let zs = outside low high lows highs at in
    let long = long_outside low high lows highs at room room' in
    let p = λ (x : ℕ). eqb x 0 in
    let mask = bitmask_splat w64 eqb zs 8 0 long (omega arith) in (
      (λ set.
          let some = mask_some p zs (λ none. not_zero _ (mask ∙ none) set) in
          let j = some.0 in
          let few : j < 8 = omega (arith, some.1, long) in
          let parts = (or_none _ _).0 (sym (lane low high lows highs at j room room' few)
          ∙ eqb-true _ 0 some.2) in (
            at + j,
            omega arith,
            omega arith,
            (and_not_none _ low (all_small _) small).0 parts.0,
            (and_not_none _ high (all_small' _) small').0 parts.1,
          )),
      (λ found.
          let j = found.0 - at in
          let few : j < 8 = omega (arith, found.1, found.2) in
          let back : at + j ≡ found.0 = omega (arith, found.1) in
          let none = (or_none _ _).1 (
            (and_not_none _ low (all_small (at + j)) small).1
                (λ k set. found.3 k (sym (ap (λ i. bit_at (get_or lows i 0) k) back) ∙ set)),
            (and_not_none _ high (all_small' (at + j)) small').1
                (λ k set. found.4 k (sym (ap (λ i. bit_at (get_or highs i 0) k) back) ∙ set)),
          ) in
          is_set _ (λ zero. mask_none p zs j (omega (arith, few, long))
          (eq-eqb _ 0 (lane low high lows highs at j room room' few ∙ none)) (sym mask ∙ zero))),
    )
