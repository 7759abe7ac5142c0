-- Where a needle occurs.
use Rattle.std.proofs.Common.{◌≡◌, ◌∙◌, ◌⊎◌, inl, inr, ℕ, zero, suc, ◌+◌, ◌-◌, ◌<◌, ◌≤◌, List, ◌++◌}
use Rattle.std.proofs.Common.{length, get_or, take, drop, sym, ap, arith, length-append}
use Rattle.std.proofs.Common.{length-drop, take-append-drop}
use Rattle.std.proofs.Math.ListN.{get_or-append}
use Rattle.std.proofs.Math.Seq.{get_or-append_right}
use Rattle.std.proofs.lemmas.Grind.{same_number_lists, common_steps}
use Rattle.memchr.specs.Find.{OccursAt}

pub order : (m n : ℕ) → (m ≤ n) ⊎ (n < m)
order zero n = inl (omega arith)
order (suc m) zero = inr (omega arith)
order (suc m) (suc n) = elim (order m n) [ inl le ↦ inl (omega arith) | inr lt ↦ inr (omega arith) ]

-- a needle between two lists occurs
pub occurs : (hay xs needle ys : List ℕ) → hay ≡ xs ++ (needle ++ ys)
    → OccursAt hay needle (length xs)
occurs hay xs needle ys e = record {
  fits = let a = ap length e ∙ length-append xs (needle ++ ys) in let b = length-append needle ys in
      omega arith;
  reads = λ j lt.
      let here : length xs + j - length xs ≡ j = omega arith in
      ap (λ l. get_or l (length xs + j) 0) e
      ∙ get_or-append_right xs (needle ++ ys) (length xs + j) 0 (omega arith)
      ∙ ap (λ i. get_or (needle ++ ys) i 0) here ∙ get_or-append needle ys 0 j lt;
}

pub cut_at : (hay needle : List ℕ) (k : ℕ) → OccursAt hay needle k
    → hay ≡ take k hay ++ (needle ++ drop (k + length needle) hay)
cut_at hay needle k o =
    let fits = o.fits in
    let reads = o.reads in
    let n = length needle in
    let core = drop k hay in
    let len : length core ≡ length hay - k = length-drop k hay in
    let front : take n core ≡ needle =
    same_number_lists (take n core) needle (grind (arith, common_steps))
    (λ j lt. grind (arith, common_steps, reads j)) in
    let back : drop n core ≡ drop (k + n) hay = grind (arith, common_steps) in
    sym (take-append-drop k hay) ∙ ap (λ l. take k hay ++ l)
    (sym (take-append-drop n core) ∙ ap (λ l. l ++ drop n core) front ∙ ap (λ l. needle ++ l) back)
