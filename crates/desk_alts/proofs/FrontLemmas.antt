-- The minimal sets of a front from those of the parts.
use Rattle.std.proofs.Common.{◌≡◌, ◌↔◌, ◌∙◌, ◌⊎◌, inl, inr, ℕ, zero, suc, ◌+◌, ◌<◌, ◌≤◌, List, []}
use Rattle.std.proofs.Common.{◌∷◌, ◌++◌, length, get_or, take, sym, ap, subst, arith, Some}
use Rattle.std.specs.Prelude.{slice_get, Contains}
use Rattle.std.proofs.lemmas.List.{take_more, take_all}
use Rattle.std.proofs.lemmas.List.Elements.{Contains-append_left, Contains-append_right, Contains-append_cases}
use Rattle.std.proofs.lemmas.Nat.Bits.{bit_at-zero}
use Rattle.desk_expr.specs.declared.term.Term.{Term}
use Rattle.desk_expr.specs.Tree.{Tree, Trees, one, all, any, no_more, parts_of, tree_size, parts_size}
use Rattle.desk_expr.specs.Meaning.{Holds, AllHold, SomeHolds}
use Rattle.desk_expr.specs.Occurring.{leaves, leaves_of}
use Rattle.desk_alts.specs.declared.masks.Mask.{Mask}
use Rattle.desk_alts.specs.Masks.{IsSubset, IsAbove, AreApart, Adds}
use Rattle.desk_alts.specs.Choices.{HasPlace, Chosen, AreMinimal, IsMinimalMask, IsTableFor}
use Rattle.desk_alts.specs.Sets.{IsTermSet}
use Rattle.desk_alts.proofs.SetLemmas.{distinct_table}
use Rattle.desk_alts.proofs.Antichains.{Generates, listed_is_least}
use Rattle.desk_alts.proofs.Inserting.{reflexive, transitive, above_none, from_nothing}

-- ---- one more part

pub all_hold_pushed : (set : Term → Type 0) (ts : List Tree) (t : Tree)
    → AllHold set (parts_of (ts ++ t ∷ [])) ↔ (AllHold set (parts_of ts) × Holds set t)
all_hold_pushed set [] t = ((λ h. (tt, h.0)), (λ h. (h.1, tt)))
all_hold_pushed set (x ∷ xs) t =
    let rest = all_hold_pushed set xs t in (
      (λ h. let r = rest.0 h.1 in ((h.0, r.0), r.1)),
      (λ h. (h.0.0, rest.1 (h.0.1, h.1))),
    )

pub some_holds_pushed : (set : Term → Type 0) (ts : List Tree) (t : Tree)
    → SomeHolds set (parts_of (ts ++ t ∷ [])) ↔ (SomeHolds set (parts_of ts) ⊎ Holds set t)
some_holds_pushed set [] t = (
  (λ h. elim h [ inl a ↦ inr a | inr b ↦ absurd b ]),
  (λ h. elim h [ inl a ↦ absurd a | inr b ↦ inl b ]),
)
some_holds_pushed set (x ∷ xs) t =
    let rest = some_holds_pushed set xs t in (
      (λ h. elim h [
        | inl a ↦ inl (inl a)
        | inr b ↦ elim (rest.0 b) [ inl c ↦ inl (inr c) | inr d ↦ inr d ]
      ]),
      (λ h. elim h [
        | inl a ↦ elim a [ inl c ↦ inl c | inr d ↦ inr (rest.1 (inl d)) ]
        | inr b ↦ inr (rest.1 (inr b))
      ]),
    )

next_front : (ts : List Tree) (i : ℕ) (t : Tree) → i < length ts → t ≡ get_or ts i t
    → take (i + 1) ts ≡ take i ts ++ t ∷ []
next_front ts i t within is = take_more ts i t within
    ∙ ap (λ (x : Tree). take i ts ++ x ∷ []) (sym is)

-- the minimal sets of the next front of an Any are those of the front and of the part, with
-- absorption
pub any_front : (table : List Term) (ts : List Tree) (i : ℕ) (t : Tree) (xs sub ys : List Mask)
    → i < length ts → t ≡ get_or ts i t
    → AreMinimal table (any (parts_of (take i ts))) xs → AreMinimal table t sub → AreApart ys
    → Adds xs ys (IsAbove sub)
    → AreMinimal table (any (parts_of (take (i + 1) ts))) ys
any_front table ts i t xs sub ys within is so_far here apart adds =
    subst (λ (l : List Tree). AreMinimal table (any (parts_of l)) ys)
    (sym (next_front ts i t within is))
    record {
      exact = λ m.
          let pushed = some_holds_pushed (Chosen table m) (take i ts) t in (
            (λ h. elim (pushed.0 h) [
              | inl a ↦ (adds m).1 (inl ((so_far.exact m).0 a))
              | inr b ↦ (adds m).1 (inr ((here.exact m).0 b))
            ]),
            (λ h. pushed.1 (elim ((adds m).0 h)
                [ inl a ↦ inl ((so_far.exact m).1 a) | inr b ↦ inr ((here.exact m).1 b) ])),
          );
      apart = apart;
    }

-- those of the next front of an All are the minimal ones of the unions of a set of the front and
-- one of the part
pub all_front : (table : List Term) (ts : List Tree) (i : ℕ) (t : Tree) (xs sub ys : List Mask)
    → i < length ts → t ≡ get_or ts i t
    → AreMinimal table (all (parts_of (take i ts))) xs → AreMinimal table t sub → AreApart ys
    → ((m : Mask) → IsAbove ys m ↔ (IsAbove xs m × IsAbove sub m))
    → AreMinimal table (all (parts_of (take (i + 1) ts))) ys
all_front table ts i t xs sub ys within is so_far here apart both =
    subst (λ (l : List Tree). AreMinimal table (all (parts_of l)) ys)
    (sym (next_front ts i t within is))
    record {
      exact = λ m.
          let pushed = all_hold_pushed (Chosen table m) (take i ts) t in (
            (λ h. let p = pushed.0 h in (both m).1 ((so_far.exact m).0 p.0, (here.exact m).0 p.1)),
            (λ h. let p = (both m).0 h in pushed.1 ((so_far.exact m).1 p.0, (here.exact m).1 p.1)),
          );
      apart = apart;
    }

pub any_start : (table : List Term) (xs : List Mask) → xs ≡ [] → AreMinimal table (any no_more) xs
any_start table xs is =
    subst (AreMinimal table (any no_more)) (sym is)
    record {
      exact = λ m. ((λ h. absurd h), (λ h. above_none m h));
      apart = λ i j d below within. absurd (omega arith);
    }

-- the empty set is a subset of each
pub all_start : (table : List Term) (first xs : List Mask) → first ≡ [] → AreApart xs
    → Adds first xs (IsSubset (record { low = 0; high = 0 })) → AreMinimal table (all no_more) xs
all_start table first xs empty apart adds = record {
  exact = λ m. (
    (λ h. (from_nothing first xs _ empty adds m).1 (
      (λ k set. absurd (let none = bit_at-zero k in omega (arith, none, set))),
      (λ k set. absurd (let none = bit_at-zero k in omega (arith, none, set))),
    )),
    (λ h. tt),
  );
  apart = apart;
}

-- ---- one term

pub chosen_at : (table : List Term) (m : Mask) (t : Term) (k : ℕ) → IsTermSet table
    → slice_get table k ≡ Some t → Chosen table m t ↔ HasPlace m k
chosen_at table m t k up at = (
  (λ h. subst (HasPlace m) (distinct_table table up h.0 k t h.1 at) h.2),
  (λ h. (k, at, h)),
)

pub leaf_minimal : (table : List Term) (t : Term) (k : ℕ) (single : Mask) (first xs : List Mask)
    → IsTermSet table → slice_get table k ≡ Some t → ((m : Mask) → IsSubset single m ↔ HasPlace m k)
    → first ≡ [] → AreApart xs → Adds first xs (IsSubset single) → AreMinimal table (one t) xs
leaf_minimal table t k single first xs distinct at says empty apart adds = record {
  exact = λ m.
      let chosen = chosen_at table m t k distinct at in
      let above = from_nothing first xs (IsSubset single) empty adds m in (
        (λ h. above.1 ((says m).1 (chosen.0 h))),
        (λ h. chosen.1 ((says m).0 (above.0 h))),
      );
  apart = apart;
}

-- ---- what AreMinimal means

generates : (table : List Term) (e : Tree) (xs : List Mask) → AreMinimal table e xs
    → Generates Mask IsSubset (λ m. Holds (Chosen table m) e) xs
generates table e xs minimal = record { exact = minimal.exact; apart = minimal.apart }

pub listed_is_minimal : (table : List Term) (e : Tree) (xs : List Mask) → AreMinimal table e xs
    → (x : Mask) → Contains xs x → IsMinimalMask table e x
listed_is_minimal table e xs minimal x at = listed_is_least Mask IsSubset reflexive transitive
    (λ m. Holds (Chosen table m) e) xs (generates table e xs minimal) x at

-- ---- the terms of a part

pub part_leaves : (ts : List Tree) (i : ℕ) (d : Tree) (t : Term) → i < length ts
    → Contains (leaves (get_or ts i d)) t → Contains (leaves_of (parts_of ts)) t
part_leaves [] i d t within at = absurd (omega arith)
part_leaves (x ∷ xs) zero d t within at = Contains-append_left (leaves x) (leaves_of (parts_of xs))
    t at
part_leaves (x ∷ xs) (suc i) d t within at = Contains-append_right (leaves x)
    (leaves_of (parts_of xs)) t (part_leaves xs i d t (omega arith) at)

pub table_for_part : (table : List Term) (ts : List Tree) (i : ℕ) (x e : Tree) → i < length ts
    → x ≡ get_or ts i x → (e ≡ all (parts_of ts)) ⊎ (e ≡ any (parts_of ts)) → IsTableFor table e
    → IsTableFor table x
table_for_part table ts i x e within is top fit =
    let inside : (t : Term) → Contains (leaves x) t → Contains (leaves_of (parts_of ts)) t =
    λ t at. part_leaves ts i x t within (subst (λ (y : Tree). Contains (leaves y) t) is at) in
    record {
      listed = λ t at. fit.listed t (elim top [
        | inl a ↦ subst (λ (y : Tree). Contains (leaves y) t) (sym a) (inside t at)
        | inr b ↦ subst (λ (y : Tree). Contains (leaves y) t) (sym b) (inside t at)
      ]);
      ordered = fit.ordered;
      few = fit.few;
    }

front_leaves : (ts : List Tree) (k : ℕ) (t : Term) → Contains (leaves_of (parts_of (take k ts))) t
    → Contains (leaves_of (parts_of ts)) t
front_leaves ts zero t at = absurd (omega (arith, at.1))
front_leaves [] (suc k) t at = absurd (omega (arith, at.1))
front_leaves (x ∷ xs) (suc k) t at =
    elim (Contains-append_cases (leaves x) (leaves_of (parts_of (take k xs))) t at) [
      | inl a ↦ Contains-append_left (leaves x) (leaves_of (parts_of xs)) t a
      | inr b ↦ Contains-append_right (leaves x) (leaves_of (parts_of xs)) t (front_leaves xs k t b)
    ]

-- the table of a node is one for its fronts
pub table_for_front : (node : Trees → Tree) → ((ts : Trees) → leaves (node ts) ≡ leaves_of ts)
    → (table : List Term) (ts : List Tree) (k : ℕ) (e : Tree) → e ≡ node (parts_of ts)
    → IsTableFor table e → IsTableFor table (node (parts_of (take k ts)))
table_for_front node own table ts k e top fit = record {
  listed = λ t at. fit.listed t
      (subst (λ (y : Tree). Contains (leaves y) t) (sym top)
      (subst (λ (l : List Term). Contains l t) (sym (own (parts_of ts)))
      (front_leaves ts k t (subst (λ (l : List Term). Contains l t) (own (parts_of (take k ts)))
      at))));
  ordered = fit.ordered;
  few = fit.few;
}

part_size : (ts : List Tree) (i : ℕ) (d : Tree) → i < length ts
    → tree_size (get_or ts i d) ≤ parts_size (parts_of ts)
part_size [] i d within = absurd (omega arith)
part_size (x ∷ xs) zero d within = omega arith
part_size (x ∷ xs) (suc i) d within = let more = part_size xs i d (omega arith) in
    omega (arith, more)

pub part_is_smaller : (ts : List Tree) (i : ℕ) (x e : Tree) → i < length ts → x ≡ get_or ts i x
    → (e ≡ all (parts_of ts)) ⊎ (e ≡ any (parts_of ts)) → tree_size x < tree_size e
part_is_smaller ts i x e within is top =
    let a : tree_size x ≡ tree_size (get_or ts i x) = ap tree_size is in
    let b = part_size ts i x within in
    elim top [
      | inl p ↦ let c : tree_size e ≡ 1 + parts_size (parts_of ts) = ap tree_size p in
          omega (arith, a, b, c)
      | inr p ↦ let c : tree_size e ≡ 1 + parts_size (parts_of ts) = ap tree_size p in
          omega (arith, a, b, c)
    ]

-- the last front is the node
pub all_done : (table : List Term) (ts : List Tree) (i : ℕ) (e : Tree) (xs : List Mask)
    → length ts ≤ i → e ≡ all (parts_of ts) → AreMinimal table (all (parts_of (take i ts))) xs
    → AreMinimal table e xs
all_done table ts i e xs whole top minimal = subst (λ (t : Tree). AreMinimal table t xs) (sym top)
    (subst (λ (l : List Tree). AreMinimal table (all (parts_of l)) xs) (take_all i ts whole)
    minimal)

pub any_done : (table : List Term) (ts : List Tree) (i : ℕ) (e : Tree) (xs : List Mask)
    → length ts ≤ i → e ≡ any (parts_of ts) → AreMinimal table (any (parts_of (take i ts))) xs
    → AreMinimal table e xs
any_done table ts i e xs whole top minimal = subst (λ (t : Tree). AreMinimal table t xs) (sym top)
    (subst (λ (l : List Tree). AreMinimal table (any (parts_of l)) xs) (take_all i ts whole)
    minimal)
