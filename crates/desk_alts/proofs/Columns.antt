-- Two columns as one list of sets.
use Rattle.std.proofs.Common.{◌≡◌, ◌↔◌, ◌∙◌, ℕ, zero, suc, ◌<◌, List, [], ◌∷◌, ◌++◌, length, get_or}
use Rattle.std.proofs.Common.{sym, ap, subst, refl, arith}
use Rattle.std.specs.List.{remove}
use Rattle.std.proofs.lemmas.List.{get_or_default}
use Rattle.desk_alts.specs.declared.masks.Mask.{Mask}
use Rattle.desk_alts.specs.Masks.{masks, IsCovered, IsAbove, IsSubset}

pub length_masks : (ls hs : List ℕ) → length ls ≡ length hs → length (masks ls hs) ≡ length ls
length_masks [] hs same = refl
length_masks (l ∷ ls) [] same = absurd (omega arith)
length_masks (l ∷ ls) (h ∷ hs) same = let more = length_masks ls hs (omega arith) in
    omega (arith, more)

pub get_masks : (ls hs : List ℕ) (i : ℕ) (d : Mask) → length ls ≡ length hs → i < length ls
    → get_or (masks ls hs) i d ≡ record { low = get_or ls i 0; high = get_or hs i 0 }
get_masks [] hs i d same within = absurd (omega arith)
get_masks (l ∷ ls) [] i d same within = absurd (omega arith)
get_masks (l ∷ ls) (h ∷ hs) zero d same within = refl
get_masks (l ∷ ls) (h ∷ hs) (suc i) d same within = get_masks ls hs i d (omega arith) (omega arith)

pub masks_pushed : (ls hs : List ℕ) (m : Mask) → length ls ≡ length hs
    → masks (ls ++ m.low ∷ []) (hs ++ m.high ∷ []) ≡ masks ls hs ++ m ∷ []
masks_pushed [] [] m same = refl
masks_pushed [] (h ∷ hs) m same = absurd (omega arith)
masks_pushed (l ∷ ls) [] m same = absurd (omega arith)
masks_pushed (l ∷ ls) (h ∷ hs) m same = ap (λ (xs : List Mask). record { low = l; high = h } ∷ xs)
    (masks_pushed ls hs m (omega arith))

pub masks_removed : (ls hs : List ℕ) (i : ℕ) → length ls ≡ length hs
    → masks (remove ls i) (remove hs i) ≡ remove (masks ls hs) i
masks_removed [] [] zero same = refl
masks_removed [] [] (suc i) same = refl
masks_removed [] (h ∷ hs) i same = absurd (omega arith)
masks_removed (l ∷ ls) [] i same = absurd (omega arith)
masks_removed (l ∷ ls) (h ∷ hs) zero same = refl
masks_removed (l ∷ ls) (h ∷ hs) (suc i) same = ap (λ (xs : List Mask). record { low = l; high = h }
    ∷ xs) (masks_removed ls hs i (omega arith))

pub got : (ls hs : List ℕ) (xs : List Mask) (i low high : ℕ) → length ls ≡ length hs
    → xs ≡ masks ls hs → i < length ls → low ≡ get_or ls i low → high ≡ get_or hs i high
    → (d : Mask) → record { low = low; high = high } ≡ get_or xs i d
got ls hs xs i low high same view within is is' d =
    let at = get_masks ls hs i d same within in
    let a : low ≡ get_or ls i 0 = is ∙ sym (get_or_default ls i 0 low within) in
    let b : high ≡ get_or hs i 0 = is' ∙ sym (get_or_default hs i 0 high (omega arith)) in
    cc

pub covered_is_above : (ls hs : List ℕ) (m : Mask) → length ls ≡ length hs
    → IsCovered m.low m.high ls hs ↔ IsAbove (masks ls hs) m
covered_is_above ls hs m same =
    let long = length_masks ls hs same in (
      (λ h.
          let x : Mask = record { low = get_or ls h.0 0; high = get_or hs h.0 0 } in
          (h.0, x, omega (arith, long, h.1), get_masks ls hs h.0 x same h.1, (h.2, h.3))),
      (λ a.
          let within : a.0 < length ls = omega (arith, long, a.2) in
          let is = sym (get_masks ls hs a.0 a.1 same within) ∙ a.3 in
          let sub = subst (λ (x : Mask). IsSubset x m) (sym is) a.4 in
          (a.0, within, sub.0, sub.1)),
    )
