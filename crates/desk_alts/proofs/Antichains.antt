-- Lists of incomparable items, and the facts that they generate upwards.
use Rattle.std.proofs.Common.{◌≡◌, ◌↔◌, ◌∙◌, ◌⊎◌, inl, inr, ⊎_elim, ℕ, ◌+◌, ◌-◌, ◌<◌, ◌≤◌, List, []}
use Rattle.std.proofs.Common.{◌∷◌, ◌++◌, length, get_or, sym, ap, subst, arith}
use Rattle.std.specs.List.{Any, AllPairs, Contains, remove}
use Rattle.std.proofs.lemmas.List.Quantifiers.{Any-push, all_pairs_push, all_pairs_remove}
use Rattle.std.proofs.lemmas.List.Elements.{Contains-push_cases, Contains-append_left, Contains-get_or}
use Rattle.std.proofs.lemmas.List.Edits.{length-remove, get_or-remove_below, get_or-remove_above}
use Rattle.std.proofs.lemmas.Bool.{cases_eq}
use Rattle.std.proofs.str.Laws.{order}
use Rattle.desk_alts.proofs.Pigeons.{pigeonhole}
use Rattle.std.proofs.lemmas.List.{get_or_default}

-- ---- Any over a push and a removal

pub any_of : {X : Type 0} (P : X → Type 0) (xs : List X) (x : X) → Contains xs x → P x → Any P xs
any_of P xs x at p = (at.0, x, at.1, at.2, p)

pub any_pushed : {X : Type 0} (P : X → Type 0) (xs : List X) (z : X)
    → Any P (xs ++ z ∷ []) ↔ (Any P xs ⊎ P z)
any_pushed P xs z = (
  (λ a. elim (Contains-push_cases xs z a.1 (a.0, a.2, a.3))
      [ inl c ↦ inl (any_of P xs a.1 c a.4) | inr e ↦ inr (subst P (sym e) a.4) ]),
  (λ h. elim h [
    | inl a ↦ any_of P (xs ++ z ∷ []) a.1
        (Contains-append_left xs (z ∷ []) a.1 (a.0, a.2, a.3)) a.4
    | inr p ↦ Any-push P xs z p
  ]),
)

pub contains_from_remove : {X : Type 0} (xs : List X) (i : ℕ) (x : X) → i < length xs
    → Contains (remove xs i) x → Contains xs x
contains_from_remove xs i x within at =
    let long = length-remove xs i within in
    ⊎_elim
    (λ below. (
      at.0,
      omega (arith, at.1, long),
      sym (get_or-remove_below xs i x at.0 below within)
          ∙ at.2,
    ))
    (λ above. (
      at.0 + 1,
      omega (arith, at.1, long),
      sym (get_or-remove_above xs i x at.0 above within) ∙ at.2,
    ))
    (order at.0 i)

pub contains_after_remove : {X : Type 0} (xs : List X) (i : ℕ) (x : X) → i < length xs
    → Contains xs x → Contains (remove xs i) x ⊎ (get_or xs i x ≡ x)
contains_after_remove xs i x within at =
    let long = length-remove xs i within in
    ⊎_elim
    (λ below. inl (
      at.0,
      omega (arith, at.1, long),
      get_or-remove_below xs i x at.0 below within
          ∙ at.2,
    ))
    (λ above.
    elim (cases_eq at.0 i) [
      | inl same ↦ inr (ap (λ k. get_or xs k x) (sym same) ∙ at.2)
      | inr other ↦
          let back : at.0 - 1 + 1 ≡ at.0 = omega (arith, above, other) in
          inl (
            at.0 - 1,
            omega (arith, at.1, long, back),
            get_or-remove_above xs i x (at.0 - 1) (omega (arith, above, back, other)) within
                ∙ (ap (λ k. get_or xs k x) back ∙ at.2),
          )
    ])
    (order at.0 i)

-- ---- antichains in a preorder

-- what is listed at a place, read with either default
at_default : {X : Type 0} (xs : List X) (k : ℕ) (x d : X) → k < length xs → get_or xs k x ≡ x
    → get_or xs k d ≡ x
at_default xs k x d within read = get_or_default xs k d x within ∙ read

-- a number for each one below a bound
abbrev pick : (n : ℕ) (R : ℕ → ℕ → Type 0) → ((j : ℕ) → j < n → (i : ℕ) × R j i) → (j : ℕ)
    → (j < n) ⊎ (n ≤ j) → ℕ
pick n R has j (inl p) = (has j p).0
pick n R has j (inr q) = 0

picked : (n : ℕ) (R : ℕ → ℕ → Type 0) (has : (j : ℕ) → j < n → (i : ℕ) × R j i) (j : ℕ)
    (w : (j < n) ⊎ (n ≤ j)) → j < n → R j (pick n R has j w)
picked n R has j (inl p) within = (has j p).1
picked n R has j (inr q) within = absurd (omega arith)

-- if each of n has one of m, and no two have the same, n is at most m
pub at_most : (n m : ℕ) (R : ℕ → ℕ → Type 0) → ((j : ℕ) → j < n → (i : ℕ) × R j i)
    → ((j i : ℕ) → R j i → i < m) → ((j k i : ℕ) → j < n → k < n → R j i → R k i → j ≡ k) → n ≤ m
at_most n m R has within one =
    let f = λ (j : ℕ). pick n R has j (order j n) in
    let at = λ (j : ℕ) (p : j < n). picked n R has j (order j n) p in
    pigeonhole n m f (λ j p. within j (f j) (at j p))
    (λ j k p q same. one j k (f j) p q (at j p) (subst (R k) (sym same) (at k q)))

module _ (X : Type 0) (Le : X → X → Type 0) where
  abbrev pub Above : List X → X → Type 0
  Above xs m = Any (λ x. Le x m) xs

  abbrev pub AreTwo : X → X → Type 0
  AreTwo x y = (Le x y → ⊥) × (Le y x → ⊥)

  abbrev pub Apart : List X → Type 0
  Apart xs = AllPairs AreTwo xs

  -- the fact holds for the item, and for no item below it that is not above it too
  abbrev pub IsLeast : (X → Type 0) → X → Type 0
  IsLeast P m = P m × ((n : X) → Le n m → P n → Le m n)

  -- the fact holds for the items above some listed one, and no others, and the listed ones are
  -- incomparable
  pub record Generates (P : X → Type 0) (xs : List X) : Type 0 where
    pub exact : (m : X) → P m ↔ Above xs m
    pub apart : Apart xs

  -- two listed items in order are at one place
  same_place : (xs : List X) → Apart xs → (j k : ℕ) (d : X) → j < length xs → k < length xs
      → Le (get_or xs j d) (get_or xs k d) → j ≡ k
  same_place xs apart j k d within within' le =
      ⊎_elim
      (λ below. absurd ((apart j k d below within').0 le))
      (λ above. elim (cases_eq j k) [
        | inl same ↦ same
        | inr other ↦
            absurd ((apart k j d (omega (arith, above, other)) within).1 le)
      ])
      (order j k)

  -- what is listed is least
  pub listed_is_least : ((x : X) → Le x x) → ((x y w : X) → Le x y → Le y w → Le x w)
      → (P : X → Type 0) (xs : List X) → Generates P xs → (x : X) → Contains xs x → IsLeast P x
  listed_is_least reflexive trans P xs g x at = (
    (g.exact x).1 (at.0, x, at.1, at.2, reflexive x),
    λ n le has.
        let below = (g.exact n).0 has in
        let y = below.1 in
        let le' : Le (get_or xs below.0 x) (get_or xs at.0 x) =
        subst (Le (get_or xs below.0 x)) (sym at.2)
        (subst (λ w. Le w x) (sym (at_default xs below.0 y x below.2 below.3))
        (trans y n x below.4 le)) in
        let same = same_place xs g.apart below.0 at.0 x below.2 at.1 le' in
        let is : y ≡ x = sym (at_default xs below.0 y x below.2 below.3)
        ∙ (ap (λ k. get_or xs k x) same ∙ at.2) in
        subst (λ w. Le w n) is below.4,
  )

  -- inserting with absorption: the new one is pushed if none is below it and none that it is below
  -- is left
  pub apart_pushed : (xs : List X) (z : X) → Apart xs → (Above xs z → ⊥)
      → ((j : ℕ) (d : X) → j < length xs → Le z (get_or xs j d) → ⊥) → Apart (xs ++ z ∷ [])
  apart_pushed xs z apart none passed =
      all_pairs_push AreTwo xs z apart
      (λ k d within. (
        (λ le. none (any_of (λ x. Le x z) xs (get_or xs k d) (Contains-get_or xs k d within) le)),
        passed k d within,
      ))

  pub apart_removed : (xs : List X) (i : ℕ) → i < length xs → Apart xs → Apart (remove xs i)
  apart_removed xs i within apart = all_pairs_remove AreTwo xs i within apart

  -- dropping one that the new one is below loses nothing
  pub above_removed : ((x y w : X) → Le x y → Le y w → Le x w)
      → (xs : List X) (z : X) (i : ℕ) (d : X) → i < length xs → Le z (get_or xs i d) → (m : X)
      → (Above (remove xs i) m ⊎ Le z m) ↔ (Above xs m ⊎ Le z m)
  above_removed trans xs z i d within over m =
      let P = λ (x : X). Le x m in (
        (λ h. elim h [
          | inl a ↦ inl (any_of P xs a.1
              (contains_from_remove xs i a.1 within (a.0, a.2, a.3)) a.4)
          | inr p ↦ inr p
        ]),
        (λ h. elim h [
          | inl a ↦ elim (contains_after_remove xs i a.1 within (a.0, a.2, a.3)) [
            | inl c ↦ inl (any_of P (remove xs i) a.1 c a.4)
            | inr e ↦ inr (trans z a.1 m (subst (Le z) (get_or_default xs i d a.1 within ∙ e) over)
                a.4)
          ]
          | inr p ↦ inr p
        ]),
      )

  pub none_removed : (xs : List X) (z : X) (i : ℕ) → i < length xs → (Above xs z → ⊥)
      → Above (remove xs i) z → ⊥
  none_removed xs z i within none a = none
      (any_of (λ x. Le x z) xs a.1 (contains_from_remove xs i a.1 within (a.0, a.2, a.3)) a.4)
