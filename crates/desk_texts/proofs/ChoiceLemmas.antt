-- What is kept of a choice grows term by term, and decides as the whole choice does.
use Rattle.std.proofs.Common.{◌≡◌, ◌∙◌, ◌⊎◌, inl, inr, ⊎_elim, ℕ, zero, suc, ◌+◌, ◌<◌, ◌≤◌, Bool}
use Rattle.std.proofs.Common.{true, false, cond, List, [], ◌∷◌, ◌++◌, length, get_or, set}
use Rattle.std.proofs.Common.{replicate, Some, sym, ap, subst, refl, arith}
use Rattle.std.specs.Prelude.{Contains, count_by, slice_get, slice_index}
use Rattle.std.proofs.Math.ListN.{get_or-append}
use Rattle.std.proofs.Math.Seq.{get_or-append_seam}
use Rattle.std.proofs.lemmas.Bool.{cases_eq, false≢true}
use Rattle.std.proofs.lemmas.List.{length_push, length-set, length-replicate, get_or-replicate}
use Rattle.std.proofs.lemmas.List.{get_or-set_other, get_or_past}
use Rattle.std.proofs.lemmas.List.Sums.{count_by-le-length, sum_by-set}
use Rattle.std.proofs.lemmas.Option.{none-some, same_Some, slice_get_within, slice_get-get_or}
use Rattle.std.proofs.lemmas.Option.{slice_get_read, get_or_from_slice_get}
use Rattle.std.proofs.str.Laws.{order}
use Rattle.desk_expr.specs.declared.term.Term.{Term}
use Rattle.desk_expr.specs.Tree.{Tree}
use Rattle.desk_expr.specs.Meaning.{Holds, Without, CanGo, IsFirst, IsMinimal}
use Rattle.desk_expr.specs.Occurring.{leaves, AreTermsOf}
use Rattle.desk_alts.proofs.Minimal.{minimal_if_none_can_go, not_minimal_if_can_go}
use Rattle.desk_alts.proofs.Choosing.{holds_on_leaves}
use Rattle.desk_alts.proofs.GoLemmas.{push_end}
use Rattle.desk_texts.specs.declared.choice.Kept.{Kept}
use Rattle.desk_texts.specs.Choices.{AreAlike, AreFirst, AreKept, IsSlot}

-- ---- one item more

get_old : {X : Type 0} (xs : List X) (y : X) (k : ℕ) (x : X)
    → slice_get xs k ≡ Some x → slice_get (xs ++ y ∷ []) k ≡ Some x
get_old [] y k x at = absurd (none-some x at)
get_old (z ∷ zs) y zero x at = at
get_old (z ∷ zs) y (suc k) x at = get_old zs y k x at

get_cases : {X : Type 0} (xs : List X) (y : X) (k : ℕ) (x : X)
    → slice_get (xs ++ y ∷ []) k ≡ Some x
    → (slice_get xs k ≡ Some x) ⊎ ((k ≡ length xs) × (y ≡ x))
get_cases [] y zero x at = inr (refl, same_Some y x at)
get_cases [] y (suc k) x at = absurd (none-some x at)
get_cases (z ∷ zs) y zero x at = inl at
get_cases (z ∷ zs) y (suc k) x at =
    elim (get_cases zs y k x at) [ inl old ↦ inl old | inr new ↦ inr (ap suc new.0, new.1) ]

index_old : (xs : List ℕ) (y k : ℕ) → k < length xs
    → slice_index (xs ++ y ∷ []) k ≡ slice_index xs k
index_old xs y k within = get_or-append xs (y ∷ []) 0 k within

index_new : (xs : List ℕ) (y k : ℕ) → k ≡ length xs → slice_index (xs ++ y ∷ []) k ≡ y
index_new xs y k is = ap (slice_index (xs ++ y ∷ [])) is ∙ get_or-append_seam xs y [] 0

-- ---- one term more of a choice

module _ (own chosen kept : List Term) (places : List ℕ) (t : Term)
    (first : AreFirst own chosen kept places) where
  placed_before : (k : ℕ) (u : Term)
      → slice_get kept k ≡ Some u → slice_index places k < length chosen
  placed_before k u at = slice_get_within chosen (slice_index places k) u (first.placed k u at)

  kept_at : (k : ℕ) → k < length places → (u : Term) × (slice_get kept k ≡ Some u)
  kept_at k within =
      let lt : k < length kept = omega (arith, first.paired) in
      (get_or kept k t, slice_get-get_or kept k t lt)

  -- one alike is kept already
  pub first_same : (k : ℕ) (u : Term) → slice_get kept k ≡ Some u → AreAlike own t u
      → AreFirst own (chosen ++ t ∷ []) kept places
  first_same k u at alike = record {
    paired = first.paired;
    placed = λ j v is. get_old chosen t (slice_index places j) v (first.placed j v is);
    ordered = first.ordered;
    each = λ j v is. elim (get_cases chosen t j v is) [
      | inl old ↦ first.each j v old
      | inr new ↦
          let before = placed_before k u at in
          (k, u, at, omega (arith, new.0), subst (λ (w : Term). AreAlike own w u) new.1 alike)
    ];
  }

  -- it is kept
  pub first_more : AreFirst own (chosen ++ t ∷ []) (kept ++ t ∷ []) (places ++ length chosen ∷ [])
  first_more =
      let n = length chosen in
      record {
        paired = length_push places n ∙ (ap (λ k. k + 1) first.paired ∙ sym (length_push kept t));
        placed = λ k u is. elim (get_cases kept t k u is) [
          | inl old ↦
              let here = slice_get_within kept k u old in
              let within : k < length places = omega (arith, first.paired) in
              subst (λ j. slice_get (chosen ++ t ∷ []) j ≡ Some u)
              (sym (index_old places n k within))
              (get_old chosen t (slice_index places k) u (first.placed k u old))
          | inr new ↦
              let last = index_new places n k (new.0 ∙ sym first.paired) in
              subst (λ j. slice_get (chosen ++ t ∷ []) j ≡ Some u) (sym last)
              (push_end chosen t ∙ ap Some new.1)
        ];
        ordered = λ j k upto within.
            let size = length_push places n in
            elim (order k (length places)) [
              | inl below ↦
                  let j_below : j < length places = omega arith in
                  rw (index_old places n j j_below, index_old places n k below)
                  (first.ordered j k upto (omega arith))
              | inr above ↦
                  let k_is : k ≡ length places = omega (arith, size) in
                  rw (index_new places n k k_is)
                  (elim (order j (length places)) [
                    | inl j_below ↦
                        let u = kept_at j j_below in
                        let before = placed_before j u.0 u.1 in
                        rw (index_old places n j j_below) (omega arith)
                    | inr j_above ↦
                        let j_is : j ≡ length places = omega arith in
                        rw (index_new places n j j_is) (omega arith)
                  ])
            ];
        each = λ j v is. elim (get_cases chosen t j v is) [
          | inl old ↦
              let e = first.each j v old in
              let here = slice_get_within kept e.0 e.1 e.2 in
              let within : e.0 < length places = omega (arith, first.paired) in
              (e.0, e.1, get_old kept t e.0 e.1 e.2, rw (index_old places n e.0 within) e.3, e.4)
          | inr new ↦
              let last = index_new places n (length kept) (sym first.paired) in
              (length kept, t, push_end kept t, rw last (omega (arith, new.0)), inl (sym new.1))
        ];
      }

pub first_none : (own : List Term) → AreFirst own [] [] []
first_none own = record {
  paired = refl;
  placed = λ k t at. absurd (none-some t at);
  ordered = λ j k upto within. omega arith;
  each = λ j t at. absurd (none-some t at);
}

-- ---- terms with one slot are alike

pub slot_alike : (own : List Term) (t u : Term) (slot : ℕ)
    → IsSlot own t slot → IsSlot own u slot → AreAlike own t u
slot_alike own t u slot here there =
    elim here [
      | inl at ↦ elim there [
        | inl other ↦ inl (same_Some t u (sym at ∙ other))
        | inr past ↦ let within = slice_get_within own slot t at in absurd (omega (arith, past.1))
      ]
      | inr past ↦ elim there [
        | inl at ↦ let within = slice_get_within own slot u at in absurd (omega (arith, past.1))
        | inr other ↦ inr (past.0, other.0)
      ]
    ]

pub slot_within : (own : List Term) (t : Term) (slot : ℕ) → IsSlot own t slot → slot ≤ length own
slot_within own t slot is =
    elim is [
      | inl at ↦ let within = slice_get_within own slot t at in omega arith
      | inr past ↦ omega (arith, past.1)
    ]

-- ---- what is kept, with the slots

none_met : (n slot : ℕ) → get_or (replicate n false) slot false ≡ false
none_met n slot =
    let size = length-replicate n false in
    ⊎_elim
    (λ within. get_or-replicate n slot false false within)
    (λ past. get_or_past (replicate n false) slot false (omega arith))
    (order slot n)

pub kept_none : (own : List Term) (kept : Kept)
    → kept.is_met.items ≡ replicate (length own + 1) false
    → kept.terms.items ≡ [] → kept.places.items ≡ [] → AreKept own [] kept
kept_none own kept slots terms places = record {
  first = subst (λ (ts : List Term). AreFirst own [] ts kept.places.items) (sym terms)
      (subst (λ (ps : List ℕ). AreFirst own [] [] ps) (sym places) (first_none own));
  slots = ap length slots ∙ length-replicate (length own + 1) false;
  few = omega (arith, ap length terms);
  met = λ slot is.
      let unset = ap (λ (marks : List Bool). get_or marks slot false) slots in
      absurd (false≢true (sym (unset ∙ none_met (length own + 1) slot) ∙ is));
}

pub kept_few : (own chosen : List Term) (kept : Kept)
    → AreKept own chosen kept → length kept.terms.items ≤ length own + 1
kept_few own chosen kept are =
    omega (arith, are.few, are.slots, count_by-le-length (λ (is : Bool). is) kept.is_met.items)

-- one alike is kept already
pub kept_same : (own chosen : List Term) (kept : Kept) (t : Term) (slot : ℕ)
    → get_or kept.is_met.items slot false ≡ true → IsSlot own t slot
    → AreKept own chosen kept → AreKept own (chosen ++ t ∷ []) kept
kept_same own chosen kept t slot met is old =
    let there = old.met slot met in
    let alike = slot_alike own t there.1 slot is there.3 in
    record {
      first = first_same own chosen kept.terms.items kept.places.items t old.first there.0 there.1
          there.2 alike;
      slots = old.slots;
      few = old.few;
      met = old.met;
    }

-- a mark that was read
pub met_at : (marks : List Bool) (slot : ℕ) (read was : Bool)
    → slot < length marks → read ≡ get_or marks slot read → read ≡ was
    → get_or marks slot false ≡ was
met_at marks slot read was within at is =
    let there = slice_get_read marks (length marks) slot read refl within at in
    get_or_from_slice_get marks slot read false there ∙ is

one_more_met : (marks : List Bool) (slot : ℕ)
    → slot < length marks → get_or marks slot false ≡ false
    → count_by (λ is. is) (set marks slot true) ≡ count_by (λ is. is) marks + 1
one_more_met marks slot within unset =
    let count : Bool → ℕ = λ is. cond is 1 0 in
    let put = sum_by-set count marks slot true false within in
    let none : count (get_or marks slot false) ≡ 0 = ap count unset in
    omega (arith, put, none)

-- it is kept
pub kept_more : (own chosen : List Term) (old new : Kept) (t : Term) (slot place : ℕ)
    → slot < length old.is_met.items → get_or old.is_met.items slot false ≡ false
    → new.is_met.items ≡ set old.is_met.items slot true
    → new.terms.items ≡ old.terms.items ++ t ∷ []
    → new.places.items ≡ old.places.items ++ place ∷ []
    → place ≡ length chosen → IsSlot own t slot
    → AreKept own chosen old → AreKept own (chosen ++ t ∷ []) new
kept_more own chosen old new t slot place within unset slots terms places at is kept =
    let marks = old.is_met.items in
    let before : List Term = old.terms.items in
    let first = first_more own chosen before old.places.items t kept.first in
    let put = places ∙ ap (λ n. old.places.items ++ n ∷ []) at in
    let counted = ap (count_by (λ (is : Bool). is)) slots ∙ one_more_met marks slot within unset in
    let size = ap length terms ∙ length_push before t in
    record {
      first = subst (λ (ts : List Term). AreFirst own (chosen ++ t ∷ []) ts new.places.items)
          (sym terms)
          (subst (λ (ps : List ℕ). AreFirst own (chosen ++ t ∷ []) (before ++ t ∷ []) ps)
          (sym put) first);
      slots = ap length slots ∙ (length-set marks slot true ∙ kept.slots);
      few = omega (arith, counted, size, kept.few);
      met = λ other met_there.
          elim (cases_eq other slot) [
            | inl same ↦
                let there = ap (λ (ts : List Term). slice_get ts (length before)) terms in
                (length before, t, there ∙ push_end before t, subst (IsSlot own t) (sym same) is)
            | inr differs ↦
                let kept_mark = get_or-set_other marks slot other true false differs in
                let marked = ap (λ (ms : List Bool). get_or ms other false) slots in
                let u = kept.met other (sym (marked ∙ kept_mark) ∙ met_there) in
                let there = ap (λ (ts : List Term). slice_get ts u.0) terms in
                (u.0, u.1, there ∙ get_old before t u.0 u.1 u.2, u.3)
          ];
    }

-- ---- the kept terms decide

listed : (xs : List Term) (k : ℕ) (t : Term) → slice_get xs k ≡ Some t → Contains xs t
listed xs k t at = (k, slice_get_within xs k t at, get_or_from_slice_get xs k t t at)

read : (xs : List Term) (t : Term) (at : Contains xs t) → slice_get xs at.0 ≡ Some t
read xs t at = slice_get-get_or xs at.0 t at.1 ∙ ap Some at.2

module _ (e : Tree) (own chosen kept : List Term) (places : List ℕ) (table : AreTermsOf e own)
    (first : AreFirst own chosen kept places) where
  is_own : (t : Term) → Contains (leaves e) t → Contains own t
  is_own t leaf = (table.members t).1 leaf

  kept_is_chosen : (t : Term) → Contains kept t → Contains chosen t
  kept_is_chosen t at =
      listed chosen (slice_index places at.0) t (first.placed at.0 t (read kept t at))

  own_is_kept : (t : Term) → Contains own t → Contains chosen t → Contains kept t
  own_is_kept t is at =
      let there = first.each at.0 t (read chosen t at) in
      elim there.4 [
        | inl same ↦ subst (Contains kept) (sym same) (listed kept there.0 there.1 there.2)
        | inr foreign ↦ absurd (foreign.0 is)
      ]

  pub holds_for_all : Holds (Contains kept) e → Holds (Contains chosen) e
  holds_for_all =
      holds_on_leaves (Contains kept) (Contains chosen) e (λ t leaf at. kept_is_chosen t at)

  pub holds_for_kept : Holds (Contains chosen) e → Holds (Contains kept) e
  holds_for_kept =
      holds_on_leaves (Contains chosen) (Contains kept) e
      (λ t leaf at. own_is_kept t (is_own t leaf) at)

  can_go : (k : ℕ) → CanGo kept e k → CanGo chosen e (slice_index places k)
  can_go k go = (
    go.0,
    first.placed k go.0 go.1,
    holds_on_leaves (Without kept go.0) (Without chosen go.0) e
        (λ t leaf w. (kept_is_chosen t w.0, w.1)) go.2,
  )

  -- what can go of the choice is alike to a kept term that can
  goes_before : (j : ℕ) → CanGo chosen e j
      → (k : ℕ) × (k < length kept) × (slice_index places k ≤ j) × CanGo kept e k
  goes_before j go =
      let there = first.each j go.0 go.1 in
      let u = there.1 in
      let without : (t : Term) → Contains (leaves e) t → Without chosen go.0 t → Without kept u t =
      λ t leaf w.
      let is = is_own t leaf in (
        own_is_kept t is w.0,
        λ gone. elim there.4 [
          | inl same ↦ w.1 (gone ∙ sym same)
          | inr foreign ↦ foreign.1 (subst (Contains own) gone is)
        ],
      ) in (
        there.0,
        slice_get_within kept there.0 u there.2,
        there.3,
        (u, there.2, holds_on_leaves (Without chosen go.0) (Without kept u) e without go.2),
      )

  pub first_goes : (k : ℕ)
      → IsFirst (CanGo kept e) k → IsFirst (CanGo chosen e) (slice_index places k)
  first_goes k is = (
    can_go k is.0,
    λ j before go.
        let there = goes_before j go in
        ⊎_elim
        (λ below. is.1 there.0 below there.3)
        (λ above.
        let upto = first.ordered k there.0 above (omega (arith, first.paired, there.1)) in
        omega (arith, there.2))
        (order there.0 k),
  )

  pub none_goes : IsMinimal kept e → IsMinimal chosen e
  none_goes minimal =
      minimal_if_none_can_go chosen e (holds_for_all minimal.0)
      (λ j within go.
      let there = goes_before j go in
      not_minimal_if_can_go kept e there.0 there.3 minimal)
