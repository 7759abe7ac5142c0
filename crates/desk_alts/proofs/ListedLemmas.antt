-- Where the expression's terms are noted.
use Rattle.std.proofs.Common.{◌≡◌, ◌≢◌, ◌∙◌, ℕ, zero, suc, ◌+◌, ◌-◌, ◌/◌, ◌<◌, ◌≤◌, true, false}
use Rattle.std.proofs.Common.{List, [], ◌∷◌, length, get_or, replicate, Bor, sym, ap, refl, subst}
use Rattle.std.proofs.Common.{arith, Option, Some, None, inl, inr, ⊎_elim}
use Rattle.std.specs.Prelude.{slice_get, Contains, nat_lt}
use Rattle.std.proofs.str.Laws.{order}
use Rattle.std.proofs.lemmas.List.{get_or-replicate}
use Rattle.std.proofs.lemmas.Bool.Decides.{nat_tests, eqb_tells}
use Rattle.std.proofs.lemmas.Option.{slice_get_within, slice_get_read, get_or_from_slice_get}
use Rattle.desk_expr.specs.declared.term.Term.{Term}
use Rattle.desk_alts.specs.Listed.{is_below, own_at, lower_by, lower_in, Names, IsOwn, noted_place, IsNoted}

middle_within : (low high n : ℕ) → low < high → high - low ≤ suc n
    → low + (high - low) / 2 - low ≤ n
middle_within low high n lt le = omega arith

-- one halving downwards
pub halve_down : (n : ℕ) (own : List (Option (Bor Term))) (t : Term) (low high : ℕ) → low < high
    → high - low ≤ n → is_below (own_at own (low + (high - low) / 2)) t ≡ false
    → (m : ℕ) × (low + (high - low) / 2 - low ≤ m)
    × (lower_by m own t low (low + (high - low) / 2) ≡ lower_by n own t low high)
halve_down zero own t low high lt le below = absurd (omega (arith, lt, le))
halve_down (suc n) own t low high lt le below =
    let test : nat_lt low high ≡ true = grind (arith, nat_tests) in
    (n, middle_within low high n lt le, sym (rw (test, below) refl))

names_one : (o : Option (Bor Term)) (t u : Term) → Names o t → Names o u → t ≡ u
names_one None t u a b = absurd a
names_one (Some known) t u a b = sym a ∙ b

pub same_own : (own : List (Option (Bor Term))) (t u : Term) → lower_in own t ≡ lower_in own u
    → IsOwn own t → IsOwn own u → t ≡ u
same_own own t u same a b = names_one (own_at own (lower_in own u)) t u
    (subst (λ slot. Names (own_at own slot) t) same a) b

same_listed : (chosen : List Term) (k : ℕ) (t u : Term) → slice_get chosen k ≡ Some t
    → slice_get chosen k ≡ Some u → t ≡ u
same_listed chosen k t u a b = let is : Some t ≡ Some u = sym a ∙ b in cc

-- what is noted of the listed terms before a place
pub record NotedTo (chosen : List Term) (own : List (Option (Bor Term))) (places : List ℕ)
    (i : ℕ) : Type 0 where
  pub there : (t : Term) → IsOwn own t → noted_place own places t < length chosen
      → slice_get chosen (noted_place own places t) ≡ Some t
  pub told : (t : Term) (k : ℕ) → IsOwn own t → k < i → slice_get chosen k ≡ Some t
      → noted_place own places t < length chosen

none_beyond : (own : List (Option (Bor Term))) (slot : ℕ) (t : Term) → Names (own_at own slot) t
    → slot < length own
none_beyond [] slot t is = absurd is
none_beyond (x ∷ xs) zero t is = omega arith
none_beyond (x ∷ xs) (suc slot) t is = let rest = none_beyond xs slot t is in omega (arith, rest)

-- at first nothing is noted
pub noted_first : (chosen : List Term) (own : List (Option (Bor Term))) (n : ℕ) → length own ≤ n
    → NotedTo chosen own (replicate n (length chosen)) 0
noted_first chosen own n room = record {
  there = λ t is listed.
      let slot : lower_in own t < n = let within = none_beyond own (lower_in own t) t is in
      omega (arith, within, room) in
      let place : noted_place own (replicate n (length chosen)) t ≡ length chosen =
      get_or-replicate n (lower_in own t) (length chosen) 0 slot in
      absurd (omega (arith, listed, place));
  told = λ t k is early at. absurd (omega (arith, early));
}

-- one more term, whose noted place, if it is found, is not after its own
noted_next : (chosen : List Term) (own : List (Option (Bor Term))) (places : List ℕ) (i : ℕ)
    (t : Term)
    → slice_get chosen i ≡ Some t → (IsOwn own t → noted_place own places t ≤ i)
    → NotedTo chosen own places i → NotedTo chosen own places (i + 1)
noted_next chosen own places i t at earlier so_far = record {
  there = so_far.there;
  told = λ u k is early at'.
      ⊎_elim
      (λ below. so_far.told u k is below at')
      (λ above.
      let here : k ≡ i = omega arith in
      let within : i < length chosen = slice_get_within chosen i t at in
      let same : t ≡ u = same_listed chosen i t u at (ap (slice_get chosen) (sym here) ∙ at') in
      let low = earlier (subst (IsOwn own) (sym same) is) in
      subst (λ v. noted_place own places v < length chosen) same (omega (arith, low, within)))
      (order k i);
}

-- nothing is noted for a term that isn't found
pub noted_none : (chosen : List Term) (own : List (Option (Bor Term))) (places : List ℕ) (i : ℕ)
    (t : Term) → slice_get chosen i ≡ Some t → (IsOwn own t → ⊥) → NotedTo chosen own places i
    → NotedTo chosen own places (i + 1)
noted_none chosen own places i t at none = noted_next chosen own places i t at
    (λ is. absurd (none is))

-- a term that is listed earlier keeps its place
pub noted_kept : (chosen : List Term) (own : List (Option (Bor Term))) (places : List ℕ) (i : ℕ)
    (t : Term) → slice_get chosen i ≡ Some t → noted_place own places t ≤ i
    → NotedTo chosen own places i → NotedTo chosen own places (i + 1)
noted_kept chosen own places i t at earlier = noted_next chosen own places i t at (λ is. earlier)

-- a term is noted
pub noted_here : (chosen : List Term) (own : List (Option (Bor Term))) (places more : List ℕ)
    (i : ℕ) (t : Term) → slice_get chosen i ≡ Some t → IsOwn own t
    → get_or more (lower_in own t) 0 ≡ i
    → ((j : ℕ) → j ≢ lower_in own t → get_or more j 0 ≡ get_or places j 0)
    → NotedTo chosen own places i → NotedTo chosen own more (i + 1)
noted_here chosen own places more i t at is_own here others so_far =
    let within : i < length chosen = slice_get_within chosen i t at in
    record {
      there = λ u is listed. (elim (eqb_tells (lower_in own u) (lower_in own t)) [
        | inl e ↦
            let same : t ≡ u = sym (same_own own u t e.1 is is_own) in
            let place : noted_place own more u ≡ i = ap (λ slot. get_or more slot 0) e.1 ∙ here in
            ap (slice_get chosen) place ∙ (at ∙ ap Some same)
        | inr e ↦
            let place : noted_place own more u ≡ noted_place own places u =
            others (lower_in own u) e.1 in
            ap (slice_get chosen) place ∙ so_far.there u is
            (subst (λ p. p < length chosen) place listed)
      ]);
      told = λ u k is early at'. (elim (eqb_tells (lower_in own u) (lower_in own t)) [
        | inl e ↦ subst (λ p. p < length chosen) (sym (ap (λ slot. get_or more slot 0) e.1 ∙ here))
            within
        | inr e ↦ subst (λ p. p < length chosen) (sym (others (lower_in own u) e.1))
            (⊎_elim
            (λ below. so_far.told u k is below at')
            (λ above.
            let now : k ≡ i = omega arith in
            let same : t ≡ u = same_listed chosen i t u at
            (ap (slice_get chosen) (sym now) ∙ at') in
            absurd (e.1 (ap (lower_in own) (sym same))))
            (order k i))
      ]);
    }

-- all are noted
pub noted_all : (chosen : List Term) (own : List (Option (Bor Term))) (places : List ℕ) (i : ℕ)
    → length chosen ≤ i → length own ≤ length places → NotedTo chosen own places i
    → IsNoted chosen own places
noted_all chosen own places i all room so_far = record {
  room = room;
  there = so_far.there;
  told = λ t is listed.
      let at : slice_get chosen listed.0 ≡ Some t = listed_at chosen t listed in
      so_far.told t listed.0 is (omega (arith, listed.1, all)) at;
}
  where
    listed_at : (chosen : List Term) (t : Term) (listed : Contains chosen t)
        → slice_get chosen listed.0 ≡ Some t
    listed_at chosen t listed = slice_get_read chosen (length chosen) listed.0 t refl listed.1
        (sym listed.2)

pub contains_at : (chosen : List Term) (t : Term) (p : ℕ) → slice_get chosen p ≡ Some t
    → Contains chosen t
contains_at chosen t p at = (
  p,
  slice_get_within chosen p t at,
  get_or_from_slice_get chosen p t t at,
)
