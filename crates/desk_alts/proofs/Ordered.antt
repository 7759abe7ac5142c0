-- The items of a list in an order, each once; and those for which a fact holds.
use Rattle.std.proofs.Common.{◌≡◌, ◌↔◌, ◌∙◌, inl, inr, List, [], ◌∷◌, sym, ap, subst, refl}
use Rattle.std.specs.Prelude.{Contains}
use Rattle.std.specs.Cmp.{IsTotalOrder}
use Rattle.std.specs.FinMap.{IsAntisymmetric}
use Rattle.std.specs.List.Sorted.{IsStrictlySortedBy}
use Rattle.std.specs.Ordering.{ordering_reverse}
use Rattle.std.specs.declared.cmp.Ordering.{Ordering}
use Rattle.std.specs.declared.cmp.Ordering.TheVariants.{Less, Equal, Greater}
use Rattle.std.proofs.lemmas.Map.Keys.{sorted_tail}
use Rattle.desk_alts.proofs.Decide.{Decided}
use Rattle.desk_base.proofs.SortedOnce.{is_head, is_later, head_first, sorted_onto}
use Rattle.desk_base.proofs.Lists.{contains_cases, none_listed}

module _ {K : Type 0} (R : K → K → Ordering) (total : IsTotalOrder R)
    (same : IsAntisymmetric R) where
  -- the items of the list and one more, in order
  abbrev Inserted : K → List K → Type 0
  Inserted x ys = (zs : List K) × IsStrictlySortedBy R zs
      × ((q : K) → Contains zs q ↔ Contains (x ∷ ys) q)

  below_all : (x y : K) (ys : List K) → R x y ≡ Less → IsStrictlySortedBy R (y ∷ ys) → (z : K)
      → Contains (y ∷ ys) z → R x z ≡ Less
  below_all x y ys less up z at =
      elim (contains_cases y ys z at) [
        | inl is ↦ ap (R x) (sym is) ∙ less
        | inr later ↦ total.trans x y z less (head_first R total y z ys up later)
      ]

  insert_by : (x y : K) (ys : List K) (r : Ordering) → R x y ≡ r → IsStrictlySortedBy R (y ∷ ys)
      → Inserted x ys → Inserted x (y ∷ ys)
  insert_by x y ys Less is up rest = (
    x ∷ y ∷ ys,
    sorted_onto R x (y ∷ ys) up (below_all x y ys is up),
    λ q. ((λ at. at), (λ at. at)),
  )
  insert_by x y ys Equal is up rest = (
    y ∷ ys,
    up,
    λ q. (
      (λ at. is_later x (y ∷ ys) q at),
      (λ at. elim (contains_cases x (y ∷ ys) q at) [
        | inl own ↦ subst (Contains (y ∷ ys)) (sym (same x y is) ∙ own) (is_head y ys)
        | inr later ↦ later
      ]),
    ),
  )
  insert_by x y ys Greater is up rest = (
    y ∷ rest.0,
    sorted_onto R y rest.0 rest.1
        (λ z at. elim (contains_cases x ys z ((rest.2 z).0 at)) [
          | inl own ↦ ap (R y) (sym own) ∙ (total.antisymm y x ∙ ap ordering_reverse is)
          | inr later ↦ head_first R total y z ys up later
        ]),
    λ q. (
      (λ at. elim (contains_cases y rest.0 q at) [
        | inl own ↦ is_later x (y ∷ ys) q (subst (Contains (y ∷ ys)) own (is_head y ys))
        | inr inside ↦ elim (contains_cases x ys q ((rest.2 q).0 inside)) [
          | inl own ↦ subst (Contains (x ∷ y ∷ ys)) own (is_head x (y ∷ ys))
          | inr later ↦ is_later x (y ∷ ys) q (is_later y ys q later)
        ]
      ]),
      (λ at. elim (contains_cases x (y ∷ ys) q at) [
        | inl own ↦ is_later y rest.0 q
            ((rest.2 q).1 (subst (Contains (x ∷ ys)) own (is_head x ys)))
        | inr inside ↦ elim (contains_cases y ys q inside) [
          | inl own ↦ subst (Contains (y ∷ rest.0)) own (is_head y rest.0)
          | inr later ↦ is_later y rest.0 q ((rest.2 q).1 (is_later x ys q later))
        ]
      ]),
    ),
  )

  inserted : (x : K) (ys : List K) → IsStrictlySortedBy R ys → Inserted x ys
  inserted x [] up = (
    x ∷ [],
    sorted_onto R x [] up (λ q at. absurd (none_listed q at)),
    λ q. ((λ at. at), (λ at. at)),
  )
  inserted x (y ∷ ys) up = insert_by x y ys (R x y) refl up (inserted x ys (sorted_tail R y ys up))

  same_head : (x : K) (xs ys : List K) → ((q : K) → Contains ys q → Contains xs q) → (q : K)
      → Contains (x ∷ ys) q → Contains (x ∷ xs) q
  same_head x xs ys sub q at =
      elim (contains_cases x ys q at) [
        | inl own ↦ subst (Contains (x ∷ xs)) own (is_head x xs)
        | inr later ↦ is_later x xs q (sub q later)
      ]

  nothing_in_order : IsStrictlySortedBy R []
  unfolding IsStrictlySortedBy
  nothing_in_order = tt

  -- the items of a list in order, each once
  pub in_order : (xs : List K) → (ys : List K) × IsStrictlySortedBy R ys
      × ((q : K) → Contains ys q ↔ Contains xs q)
  in_order [] = ([], nothing_in_order, λ q. ((λ at. at), (λ at. at)))
  in_order (x ∷ xs) =
      let rest = in_order xs in
      let found = inserted x rest.0 rest.1 in (
        found.0,
        found.1,
        λ q. (
          (λ at. same_head x xs rest.0 (λ p has. (rest.2 p).0 has) q ((found.2 q).0 at)),
          (λ at. (found.2 q).1 (same_head x rest.0 xs (λ p has. (rest.2 p).1 has) q at)),
        ),
      )

-- the items of a list for which a fact holds
pub having : {K : Type 0} (P : K → Type 0) → ((q : K) → Decided (P q)) → (xs : List K)
    → (ys : List K) × ((q : K) → Contains ys q ↔ (Contains xs q × P q))
having P known [] = ([], λ q. ((λ at. absurd (none_listed q at)), (λ h. h.0)))
having P known (x ∷ xs) =
    let rest = having P known xs in
    elim (known x) [
      | inl holds ↦ (
        x ∷ rest.0,
        λ q. (
          (λ at. elim (contains_cases x rest.0 q at) [
            | inl own ↦ (subst (Contains (x ∷ xs)) own (is_head x xs), subst P own holds)
            | inr later ↦ let old = (rest.1 q).0 later in (is_later x xs q old.0, old.1)
          ]),
          (λ h. elim (contains_cases x xs q h.0) [
            | inl own ↦ subst (Contains (x ∷ rest.0)) own (is_head x rest.0)
            | inr later ↦ is_later x rest.0 q ((rest.1 q).1 (later, h.1))
          ]),
        ),
      )
      | inr fails ↦ (
        rest.0,
        λ q. (
          (λ at. let old = (rest.1 q).0 at in (is_later x xs q old.0, old.1)),
          (λ h. elim (contains_cases x xs q h.0) [
            | inl own ↦ absurd (fails (subst P (sym own) h.1))
            | inr later ↦ (rest.1 q).1 (later, h.1)
          ]),
        ),
      )
    ]
