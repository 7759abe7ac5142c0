-- A word is in bytes if a search finds it there.
use Rattle.std.proofs.Common.{◌≡◌, ◌∙◌, inl, inr, ℕ, zero, suc, ◌+◌, ◌<◌, true, List, [], ◌∷◌}
use Rattle.std.proofs.Common.{Option, None, Some, length, take, get_or, sym, ap, arith}
use Rattle.std.specs.Prelude.{nat_eq, is_some, ◌||◌}
use Rattle.std.specs.List.{starts_with}
use Rattle.std.proofs.Math.Bool.{or-true}
use Rattle.std.proofs.lemmas.Bool.{cases_Bool}
use Rattle.std.proofs.lemmas.List.{length-take}
use Rattle.std.proofs.lemmas.Slice.Eq.{bytes_eq-Decides}
use Rattle.memchr.specs.Find.{OccursAt, FindsNeedle}
use Rattle.memchr.proofs.lemmas.MatchLemmas.{OccursAt-part, OccursAt-from_part}
use Rattle.desk_looks.specs.Looks.{has_word}

starts_at : (hay word : List ℕ) → OccursAt hay word 0 → starts_with nat_eq hay word ≡ true
starts_at hay word o =
    (bytes_eq-Decides word (take (length word) hay)).1 (sym (OccursAt-part hay word 0 o))

at_start : (hay word : List ℕ) → starts_with nat_eq hay word ≡ true → OccursAt hay word 0
at_start hay word is =
    let e : word ≡ take (length word) hay =
    (bytes_eq-Decides word (take (length word) hay)).0 is in
    let len = ap length e ∙ length-take (length word) hay in
    OccursAt-from_part hay word 0 (omega (arith, len)) (sym e)

later : (b : ℕ) (bytes word : List ℕ) (k : ℕ) → OccursAt bytes word k
    → OccursAt (b ∷ bytes) word (suc k)
later b bytes word k o = record {
  fits = let fits = o.fits in omega arith;
  reads = λ j lt.
      let e : suc k + j ≡ suc (k + j) = omega arith in
      ap (λ i. get_or (b ∷ bytes) i 0) e ∙ o.reads j lt;
}

sooner : (b : ℕ) (bytes word : List ℕ) (k : ℕ) → OccursAt (b ∷ bytes) word (suc k)
    → OccursAt bytes word k
sooner b bytes word k o = record {
  fits = let fits = o.fits in omega arith;
  reads = λ j lt.
      let e : suc (k + j) ≡ suc k + j = omega arith in
      ap (λ i. get_or (b ∷ bytes) i 0) e ∙ o.reads j lt;
}

word_at : (hay word : List ℕ) (k : ℕ) → OccursAt hay word k → has_word word hay ≡ true
word_at [] word k o =
    let fits = o.fits in
    starts_at [] word (record {
      fits = omega arith;
      reads = λ j lt. absurd (omega arith);
    })
word_at (b ∷ bytes) word zero o =
    ap (λ s. s || has_word word bytes) (starts_at (b ∷ bytes) word o)
word_at (b ∷ bytes) word (suc k) o =
    ap (λ s. starts_with nat_eq (b ∷ bytes) word || s)
    (word_at bytes word k (sooner b bytes word k o))
    ∙ or-true (starts_with nat_eq (b ∷ bytes) word)

at_word : (hay word : List ℕ) → has_word word hay ≡ true
    → (k : ℕ) × (k < length hay + 1) × OccursAt hay word k
at_word [] word is = (0, omega arith, at_start [] word is)
at_word (b ∷ bytes) word is = elim (cases_Bool (starts_with nat_eq (b ∷ bytes) word)) [
  | inl here ↦ (0, omega arith, at_start (b ∷ bytes) word here)
  | inr not ↦
      let o = at_word bytes word (sym (ap (λ s. s || has_word word bytes) not) ∙ is) in
      (suc o.0, (let low = o.1 in omega arith), later b bytes word o.0 o.2)
]

pub found : (hay word : List ℕ) (r : Option ℕ) → FindsNeedle hay word 0 r
    → is_some r ≡ has_word word hay
found hay word (Some k) h = sym (word_at hay word k h.1)
found hay word None h = elim (cases_Bool (has_word word hay)) [
  | inl there ↦ let o = at_word hay word there in absurd (h o.0 (omega arith) o.1 o.2)
  | inr not ↦ sym not
]
