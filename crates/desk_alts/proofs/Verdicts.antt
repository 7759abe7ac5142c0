-- The verdict of a choice of terms: whether it satisfies a tree, and whether one of its terms can
-- go.
use Rattle.std.proofs.Common.{◌≡◌, ◌⊎◌, inl, inr, ℕ, List, length, Option, Some, None, subst, refl}
use Rattle.std.specs.Prelude.{slice_get, Contains}
use Rattle.desk_expr.specs.declared.term.Term.{Term}
use Rattle.desk_expr.specs.Tree.{Tree, Trees, one, all, any, no_more, more}
use Rattle.desk_expr.specs.Meaning.{Holds, AllHold, SomeHolds, IsMinimal, Without, CanGo, IsFirst}
use Rattle.desk_alts.proofs.SameTerms.{same_term}
use Rattle.desk_alts.proofs.Minimal.{holds_more, minimal_if_none_can_go}
use Rattle.desk_alts.proofs.Choosing.{is_listed}
use Rattle.desk_alts.proofs.Decide.{Decided, decided_not, decided_both, first_below}

module _ (set : Term → Type 0) (known : (t : Term) → Decided (set t)) where
  mutual
    holds_or_not : (e : Tree) → Decided (Holds set e)
    holds_or_not (one t) = known t
    holds_or_not (all ts) = all_hold_or_not ts
    holds_or_not (any ts) = some_holds_or_not ts

    all_hold_or_not : (ts : Trees) → Decided (AllHold set ts)
    all_hold_or_not no_more = inl tt
    all_hold_or_not (more t ts) = decided_both (Holds set t) (AllHold set ts) (holds_or_not t)
        (all_hold_or_not ts)

    some_holds_or_not : (ts : Trees) → Decided (SomeHolds set ts)
    some_holds_or_not no_more = inr (λ h. h)
    some_holds_or_not (more t ts) =
        elim (holds_or_not t) [
          | inl here ↦ inl (inl here)
          | inr fails ↦ elim (some_holds_or_not ts) [
            | inl later ↦ inl (inr later)
            | inr none ↦ inr (λ h. elim h [ inl a ↦ fails a | inr b ↦ none b ])
          ]
        ]

without_or_not : (chosen : List Term) (gone t : Term) → Decided (Without chosen gone t)
without_or_not chosen gone t = decided_both (Contains chosen t) (t ≡ gone → ⊥) (is_listed chosen t)
    (decided_not (t ≡ gone) (same_term t gone))

can_go_or_not : (chosen : List Term) (e : Tree) (i : ℕ) → Decided (CanGo chosen e i)
can_go_or_not chosen e i = at (slice_get chosen i) refl
  where
    at : (o : Option Term) → slice_get chosen i ≡ o → Decided (CanGo chosen e i)
    at None is = inr (λ (t, there, h). absurd (cc))
    at (Some t) is =
        elim (holds_or_not (Without chosen t) (without_or_not chosen t) e) [
          | inl h ↦ inl (t, is, h)
          | inr fails ↦ inr (λ (u, there, h). let same : u ≡ t = cc in
              fails (subst (λ v. Holds (Without chosen v) e) same h))
        ]

pub verdict : (e : Tree) (chosen : List Term)
    → (Holds (Contains chosen) e → ⊥)
    ⊎ ((Holds (Contains chosen) e × (i : ℕ) × IsFirst (CanGo chosen e) i) ⊎ IsMinimal chosen e)
verdict e chosen =
    elim (holds_or_not (Contains chosen) (is_listed chosen) e) [
      | inr fails ↦ inl fails
      | inl h ↦ elim (first_below (CanGo chosen e) (can_go_or_not chosen e) (length chosen)) [
        | inl found ↦ inr (inl (h, found.0, found.1))
        | inr none ↦ inr (inr (minimal_if_none_can_go chosen e h none))
      ]
    ]

-- a choice that has a term to spare is enough
pub enough_if_can_go : (e : Tree) (chosen : List Term) (i : ℕ) → CanGo chosen e i
    → Holds (Contains chosen) e
enough_if_can_go e chosen i (t, at, h) = holds_more (Without chosen t) (Contains chosen)
    (λ u w. w.0) e h
