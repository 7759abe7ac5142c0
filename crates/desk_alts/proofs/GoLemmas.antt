-- Which chosen terms can go, found one round at a time.
use Rattle.std.proofs.Common.{◌≡◌, ◌∙◌, ◌⊎◌, inl, inr, ℕ, zero, suc, ◌+◌, ◌<◌, List, [], ◌∷◌, ◌++◌}
use Rattle.std.proofs.Common.{length, ap, refl, arith, Some, ⊎_elim, subst}
use Rattle.std.specs.Prelude.{slice_get}
use Rattle.std.proofs.lemmas.Option.{slice_get_within}
use Rattle.std.proofs.str.Laws.{order}
use Rattle.desk_expr.specs.declared.term.Term.{Term}
use Rattle.desk_expr.specs.Tree.{Tree}
use Rattle.desk_expr.specs.Meaning.{CanGo, IsFirst}
use Rattle.desk_alts.specs.Rounds.{IsCopy, IsRound, IsFirstToGo}

-- what is in a list with one more at its end
push_cases : {X : Type 0} (xs : List X) (x y : X) (k : ℕ) → slice_get (xs ++ x ∷ []) k ≡ Some y
    → (slice_get xs k ≡ Some y) ⊎ ((k ≡ length xs) × (x ≡ y))
push_cases [] x y zero at = inr (refl, cc)
push_cases [] x y (suc k) at = cc
push_cases (z ∷ zs) x y zero at = inl at
push_cases (z ∷ zs) x y (suc k) at = elim (push_cases zs x y k at)
    [ inl before ↦ inl before | inr here ↦ inr (omega (arith, here.0), here.1) ]

pub push_before : {X : Type 0} (xs : List X) (x y : X) (k : ℕ) → slice_get xs k ≡ Some y
    → slice_get (xs ++ x ∷ []) k ≡ Some y
push_before [] x y k at = cc
push_before (z ∷ zs) x y zero at = at
push_before (z ∷ zs) x y (suc k) at = push_before zs x y k at

pub push_end : {X : Type 0} (xs : List X) (x : X) → slice_get (xs ++ x ∷ []) (length xs) ≡ Some x
push_end [] x = refl
push_end (z ∷ zs) x = push_end zs x

module _ (chosen : List Term) (from : ℕ) where
  pub round_begins : IsRound chosen from from []
  round_begins = record {
    within = λ k place at. cc;
    rises = λ j k p q at. cc;
    covers = λ place above below. absurd (omega (arith, above, below));
  }

  pub round_passes : (next : ℕ) (candidates : List ℕ) → IsCopy chosen next
      → IsRound chosen from next candidates → IsRound chosen from (next + 1) candidates
  round_passes next candidates copy round = record {
    within = λ k place at. let below = round.within k place at in omega (arith, below);
    rises = round.rises;
    covers = λ place above below. ⊎_elim
        (λ before. round.covers place above before)
        (λ behind. let is : next ≡ place = omega arith in inl (subst (IsCopy chosen) is copy))
        (order place next);
  }

  pub round_takes : (next : ℕ) (candidates : List ℕ) → IsRound chosen from next candidates
      → IsRound chosen from (next + 1) (candidates ++ next ∷ [])
  round_takes next candidates round = record {
    within = λ k place at. (elim (push_cases candidates next place k at) [
      | inl before ↦ let below = round.within k place before in omega (arith, below)
      | inr here ↦ omega (arith, here.1)
    ]);
    rises = λ j k p q at at' below. (elim (push_cases candidates next q k at') [
      | inl before' ↦ (elim (push_cases candidates next p j at) [
        | inl before ↦ round.rises j k p q before before' below
        | inr here ↦ let low = round.within k q before' in
            absurd (omega (arith, here.1, below, low))
      ])
      | inr here' ↦ (elim (push_cases candidates next p j at) [
        | inl before ↦ let low = slice_get_within candidates j p before in
            omega (arith, here'.0, low)
        | inr here ↦ absurd (omega (arith, here.1, here'.1, below))
      ])
    ]);
    covers = λ place above below. ⊎_elim
        (λ before. elim (round.covers place above before) [
          | inl copy ↦ inl copy
          | inr (k, at) ↦ inr (k, push_before candidates next place k at)
        ])
        (λ behind. let is : next ≡ place = omega arith in
        inr (length candidates, push_end candidates next ∙ ap Some is))
        (order place next);
  }

-- the original of a copy that can go can go too
original_goes : (chosen : List Term) (e : Tree) (place : ℕ) (copy : IsCopy chosen place)
    → CanGo chosen e place → CanGo chosen e copy.0
original_goes chosen e place copy (t, at, holds) = (t, copy.2 ∙ at, holds)

-- if each term below a place stays or is a copy, none there can go
none_below : (chosen : List Term) (e : Tree) (n : ℕ)
    → ((i : ℕ) → i < n → IsCopy chosen i ⊎ (CanGo chosen e i → ⊥)) → (i : ℕ) → i < n
    → CanGo chosen e i → ⊥
none_below chosen e zero each i below go = absurd (omega (arith, below))
none_below chosen e (suc n) each i below go =
    let before = none_below chosen e n (λ j low. each j (omega (arith, low))) in
    ⊎_elim
    (λ low. before i low go)
    (λ high.
    let is : i ≡ n = omega arith in
    elim (each i below) [
      | inl copy ↦ before copy.0 (let first = copy.1 in omega (arith, first, is))
          (original_goes chosen e i copy go)
      | inr stays ↦ stays go
    ])
    (order i n)

module _ (chosen : List Term) (e : Tree) (from next : ℕ) (candidates : List ℕ)
    (round : IsRound chosen from next candidates)
    (kept : (j : ℕ) → j < from → CanGo chosen e j → ⊥) where
  pub first_goes : (place : ℕ) → IsFirstToGo chosen e candidates place
      → IsFirst (CanGo chosen e) place
  first_goes place is = (
    is.goes,
    none_below chosen e place (λ i below. ⊎_elim
        (λ early. inr (kept i early))
        (λ late.
        let within = round.within is.k place is.at in
        elim (round.covers i late (omega (arith, below, within))) [
          | inl copy ↦ inl copy
          | inr (j, at) ↦ inr (is.first j i (round.rises j is.k i place at is.at below) at)
        ])
        (order i from)),
  )

  pub none_goes : ((j place : ℕ) → slice_get candidates j ≡ Some place → CanGo chosen e place → ⊥)
      → (i : ℕ) → i < next → CanGo chosen e i → ⊥
  none_goes stay = none_below chosen e next (λ i below. ⊎_elim
      (λ early. inr (kept i early))
      (λ late. elim (round.covers i late below) [
        | inl copy ↦ inl copy
        | inr (j, at) ↦ inr (stay j i at)
      ])
      (order i from))
