-- A set is minimal if none of its terms can go alone, since a larger set satisfies what a smaller
-- one does.
use Rattle.std.proofs.Common.{ℕ, ◌<◌, List, length, inl, inr, sym, subst, refl}
use Rattle.std.specs.Prelude.{Contains}
use Rattle.std.proofs.lemmas.Option.{slice_get_read, slice_get_within, get_or_from_slice_get}
use Rattle.desk_alts.proofs.SameTerms.{without_is_list}
use Rattle.desk_expr.specs.declared.term.Term.{Term}
use Rattle.desk_expr.specs.Tree.{Tree, Trees, one, all, any, no_more, more}
use Rattle.desk_expr.specs.Meaning.{Holds, AllHold, SomeHolds, IsMinimal, CanGo}

mutual
  pub holds_more : (few many : Term → Type 0) → ((t : Term) → few t → many t) → (e : Tree)
      → Holds few e → Holds many e
  holds_more few many sub (one t) h = sub t h
  holds_more few many sub (all ts) h = all_hold_more few many sub ts h
  holds_more few many sub (any ts) h = some_holds_more few many sub ts h

  pub all_hold_more : (few many : Term → Type 0) → ((t : Term) → few t → many t) → (ts : Trees)
      → AllHold few ts → AllHold many ts
  all_hold_more few many sub no_more h = tt
  all_hold_more few many sub (more t ts) h = (
    holds_more few many sub t h.0,
    all_hold_more few many sub ts h.1,
  )

  pub some_holds_more : (few many : Term → Type 0) → ((t : Term) → few t → many t) → (ts : Trees)
      → SomeHolds few ts → SomeHolds many ts
  some_holds_more few many sub no_more h = h
  some_holds_more few many sub (more t ts) h =
      elim h [
        | inl a ↦ inl (holds_more few many sub t a)
        | inr b ↦ inr (some_holds_more few many sub ts b)
      ]

pub minimal_if_none_can_go : (chosen : List Term) (e : Tree) → Holds (Contains chosen) e
    → ((i : ℕ) → i < length chosen → CanGo chosen e i → ⊥) → IsMinimal chosen e
minimal_if_none_can_go chosen e holds none = (
  holds,
  λ few proper h.
      let lacked = proper.1 in
      let at = proper.2 in
      none at.0 at.1 (
        lacked,
        slice_get_read chosen (length chosen) at.0 lacked refl at.1 (sym at.2),
        holds_more _ _ (λ t in_few. (
          proper.0 t in_few,
          λ same. proper.3 (subst (Contains few) same in_few),
        )) e h,
      ),
)

-- a set with a term that can go is not minimal
pub not_minimal_if_can_go : (chosen : List Term) (e : Tree) (i : ℕ) → CanGo chosen e i
    → IsMinimal chosen e → ⊥
not_minimal_if_can_go chosen e i go minimal =
    let gone = go.0 in
    let few = without_is_list chosen gone in
    minimal.1 few.0 (
      λ t at. ((few.1 t).0 at).0,
      gone,
      (i, slice_get_within chosen i gone go.1, get_or_from_slice_get chosen i gone gone go.1),
      λ at. ((few.1 gone).0 at).1 refl,
    )
    (holds_more _ _ (λ t at. (few.1 t).1 at) e go.2)
