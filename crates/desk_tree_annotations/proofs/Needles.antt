-- Where a needle first occurs.
use Rattle.std.proofs.Common.{◌≡◌, ◌∙◌, ℕ, zero, suc, ◌+◌, ◌-◌, ◌<◌, List, ◌++◌, length}
use Rattle.std.proofs.Common.{take, drop, sym, ap, refl, arith, append_assoc, length-append}
use Rattle.std.specs.Prelude.{Some}
use Rattle.std.proofs.lemmas.Grind.{common_steps}
use Rattle.memchr.specs.Find.{OccursAt, FindsNeedle, Nowhere}
use Rattle.desk_tree_annotations.specs.Runs.{Lacks, IsUpTo}
use Rattle.desk_tree_patterns.proofs.Needles.{occurs, cut_at}

pub none_lacks : (hay needle : List ℕ) → Nowhere (OccursAt hay needle) 0 (length hay + 1)
    → Lacks needle hay
none_lacks hay needle h xs ys e =
    let o = occurs hay xs needle ys e in
    let fits = o.fits in
    h (length xs) (omega arith) (omega arith) o

pub first_up_to : (hay needle before after : List ℕ) → 0 < length needle
    → hay ≡ before ++ (needle ++ after) → Nowhere (OccursAt hay needle) 0 (length before)
    → IsUpTo needle before
first_up_to hay needle before after some cut none xs ys e =
    let len = sym (length-append before needle) ∙ ap length e ∙ length-append xs (needle ++ ys) in
    let more = length-append needle ys in
    let whole : hay ≡ xs ++ (needle ++ (ys ++ after)) = cut ∙ sym (append_assoc before needle after)
    ∙ ap (λ l. l ++ after) e ∙ simp append_assoc refl in
    let cases : (n : ℕ) → length ys ≡ n → n ≡ 0 = λ n. elim n as (λ n. length ys ≡ n → n ≡ 0) [
      | zero ↦ λ is. refl
      | suc m ↦ λ is. absurd (none (length xs) (omega arith) (omega arith)
          (occurs hay xs needle (ys ++ after) whole))
    ] in
    cases (length ys) refl

pub found_cut : (hay needle after : List ℕ) (k : ℕ) → FindsNeedle hay needle 0 (Some k)
    → after ≡ drop (k + length needle) hay → hay ≡ take k hay ++ (needle ++ after)
found_cut hay needle after k h e = cut_at hay needle k h.1
    ∙ ap (λ l. take k hay ++ (needle ++ l)) (sym e)

pub found_first : (hay needle : List ℕ) (k : ℕ) → 0 < length needle
    → FindsNeedle hay needle 0 (Some k) → IsUpTo needle (take k hay)
found_first hay needle k some h =
    let o = h.1 in
    let fits = o.fits in
    let n = h.0 in
    let len : length (take k hay) ≡ k = grind (arith, common_steps) in
    first_up_to hay needle (take k hay) (drop (k + length needle) hay) some (cut_at hay needle k o)
    (λ j low high. n.before j low (omega arith))
