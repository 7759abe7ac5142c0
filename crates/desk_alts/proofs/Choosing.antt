-- Sets of places and lists of terms: what is minimal among the former is minimal among the latter.
use Rattle.std.proofs.Common.{◌≡◌, ◌↔◌, ◌∙◌, ◌⊎◌, inl, inr, ⊎_elim, ℕ, zero, suc, ◌+◌, ◌-◌, ◌*◌}
use Rattle.std.proofs.Common.{◌%◌, ◌^◌, ◌<◌, ◌≤◌, ◌≢◌, List, [], ◌∷◌, ◌++◌, length, length-append}
use Rattle.std.proofs.Common.{sym, ap, ap₂, subst, refl, arith, Some, None, Option, bit_or}
use Rattle.std.specs.Prelude.{slice_get, Contains}
use Rattle.std.specs.Int.{bit_at, w64}
use Rattle.std.proofs.lemmas.Nat.Bits.{bit_at-zero, bit_at_set_same, bit_at_set_other}
use Rattle.std.proofs.lemmas.Option.{slice_get_within, get_or_from_slice_get, slice_get_read}
use Rattle.std.proofs.lemmas.List.Elements.{Contains-append_left, Contains-append_right}
use Rattle.std.proofs.lemmas.List.Elements.{Contains-push, Contains-push_cases}
use Rattle.std.proofs.lemmas.Bool.{cases_eq}
use Rattle.std.proofs.str.Laws.{order}
use Rattle.desk_expr.specs.declared.term.Term.{Term}
use Rattle.desk_expr.specs.Tree.{Tree, Trees, one, all, any, no_more, more}
use Rattle.desk_expr.specs.Meaning.{Holds, AllHold, SomeHolds, Without, IsMinimal}
use Rattle.desk_expr.specs.Occurring.{leaves, leaves_of, term_order}
use Rattle.desk_alts.proofs.Minimal.{holds_more, minimal_if_none_can_go}
use Rattle.desk_alts.proofs.SameTerms.{same_term, contains_cases, contains_here}
use Rattle.desk_alts.specs.declared.masks.Mask.{Mask}
use Rattle.desk_alts.specs.Masks.{IsSubset}
use Rattle.std.proofs.lemmas.Map.Keys.{sorted_tail, Less-from_sorted}
use Rattle.desk_base.proofs.SortedOnce.{is_later}
use Rattle.desk_alts.specs.Choices.{HasPlace, Chosen, IsMinimalMask, AreMinimal, IsTableFor, IsChoice}
use Rattle.desk_alts.specs.Sets.{IsTermSet}
use Rattle.desk_alts.proofs.SetLemmas.{head_below, sorted_consed, sorted_pushed, sorted_none, distinct_table}
use Rattle.desk_alts.proofs.MarkLemmas.{same_item}

pub subset_place : (x m : Mask) (k : ℕ) → IsSubset x m → HasPlace x k → HasPlace m k
subset_place x m k sub has = elim has
    [ inl a ↦ inl (a.0, sub.0 k a.1) | inr b ↦ inr (b.0, sub.1 (k - 64) b.1) ]

-- ---- every set of terms that satisfies the tree contains a listed one

mutual
  pub holds_on_leaves : (few many : Term → Type 0) (e : Tree)
      → ((t : Term) → Contains (leaves e) t → few t → many t) → Holds few e → Holds many e
  holds_on_leaves few many (one t) sub h = sub t (0, omega arith, refl) h
  holds_on_leaves few many (all ts) sub h = all_hold_on_leaves few many ts sub h
  holds_on_leaves few many (any ts) sub h = some_holds_on_leaves few many ts sub h

  pub all_hold_on_leaves : (few many : Term → Type 0) (ts : Trees)
      → ((t : Term) → Contains (leaves_of ts) t → few t → many t) → AllHold few ts → AllHold many ts
  all_hold_on_leaves few many no_more sub h = tt
  all_hold_on_leaves few many (more x xs) sub h = (
    holds_on_leaves few many x (λ t at. sub t (Contains-append_left (leaves x) (leaves_of xs) t at))
        h.0,
    all_hold_on_leaves few many xs
        (λ t at. sub t (Contains-append_right (leaves x) (leaves_of xs) t at)) h.1,
  )

  pub some_holds_on_leaves : (few many : Term → Type 0) (ts : Trees)
      → ((t : Term) → Contains (leaves_of ts) t → few t → many t) → SomeHolds few ts
      → SomeHolds many ts
  some_holds_on_leaves few many no_more sub h = h
  some_holds_on_leaves few many (more x xs) sub h =
      elim h [
        | inl a ↦ inl (holds_on_leaves few many x
            (λ t at. sub t (Contains-append_left (leaves x) (leaves_of xs) t at)) a)
        | inr b ↦ inr (some_holds_on_leaves few many xs
            (λ t at. sub t (Contains-append_right (leaves x) (leaves_of xs) t at)) b)
      ]

pub is_listed : (s : List Term) (t : Term) → Contains s t ⊎ (Contains s t → ⊥)
is_listed [] t = inr (λ at. omega (arith, at.1))
is_listed (x ∷ xs) t =
    elim (same_term x t) [
      | inl e ↦ inl (contains_here x xs t e)
      | inr n ↦ elim (is_listed xs t) [
        | inl a ↦ inl (is_later x xs t a)
        | inr b ↦ inr (λ at. elim (contains_cases x xs t at) [ inl e ↦ n e | inr a ↦ b a ])
      ]
    ]

-- a number whose bits say for which numbers below a bound a fact holds
bits_of : (P : ℕ → Type 0) → ((k : ℕ) → P k ⊎ (P k → ⊥)) → (n : ℕ) → n ≤ 64
    → (a : ℕ) × ((k : ℕ) → (bit_at a k ≡ 1) ↔ ((k < n) × P k))
bits_of P dec zero small = (
  0,
  λ k. (
    (λ set. absurd (let none = bit_at-zero k in omega (arith, none, set))),
    (λ h. absurd (omega (arith, h.0))),
  ),
)
bits_of P dec (suc n) small =
    let rest = bits_of P dec n (omega arith) in
    elim (dec n) [
      | inl p ↦ (
        bit_or rest.0 (1 * 2 ^ n % 2 ^ 64),
        λ k. elim (cases_eq k n) [
          | inl is ↦ (
            (λ set. (omega arith, subst P (sym is) p)),
            (λ h. ap (bit_at (bit_or rest.0 (1 * 2 ^ n % 2 ^ 64))) is
                ∙ bit_at_set_same w64 rest.0 n (omega arith)),
          )
          | inr ne ↦
              let keeps = bit_at_set_other w64 rest.0 n (omega arith) k ne in (
                (λ set. let old = (rest.1 k).0 (sym keeps ∙ set) in (omega (arith, old.0), old.1)),
                (λ h. keeps ∙ (rest.1 k).1 (omega (arith, h.0, ne), h.1)),
              )
        ],
      )
      | inr isnt ↦ (
        rest.0,
        λ k. (
          (λ set. let old = (rest.1 k).0 set in (omega (arith, old.0), old.1)),
          (λ h. (rest.1 k).1 (
            elim (cases_eq k n) [
              | inl is ↦ absurd (isnt (subst P is h.1))
              | inr ne ↦ (let lt : k < n = omega (arith, h.0, ne) in lt)
            ],
            h.1,
          )),
        ),
      )
    ]

-- the set of the places below 128 for which a fact holds
pub record HasJust (P : ℕ → Type 0) (m : Mask) : Type 0 where
  pub only : (k : ℕ) → HasPlace m k → P k
  pub each : (k : ℕ) → k < 128 → P k → HasPlace m k
  pub low : (k : ℕ) → bit_at m.low k ≡ 1 → k < 64
  pub high : (k : ℕ) → bit_at m.high k ≡ 1 → k < 64

pub mask_of : (P : ℕ → Type 0) → ((k : ℕ) → P k ⊎ (P k → ⊥)) → (m : Mask) × HasJust P m
mask_of P dec =
    let low = bits_of P dec 64 (omega arith) in
    let high = bits_of (λ k. P (64 + k)) (λ k. dec (64 + k)) 64 (omega arith) in (
      record { low = low.0; high = high.0 },
      record {
        only = λ k has. elim has [
          | inl a ↦ ((low.1 k).0 a.1).1
          | inr b ↦ let back : 64 + (k - 64) ≡ k = omega (arith, b.0) in
              subst P back ((high.1 (k - 64)).0 b.1).1
        ];
        each = λ k small p.
            ⊎_elim
            (λ below. inl (below, (low.1 k).1 (below, p)))
            (λ above. let back : k ≡ 64 + (k - 64) = omega arith in
            inr (above, (high.1 (k - 64)).1 (omega arith, subst P back p)))
            (order k 64);
        low = λ k set. ((low.1 k).0 set).0;
        high = λ k set. ((high.1 k).0 set).0;
      },
    )

subset_from_places : (P : ℕ → Type 0) (n m : Mask) → HasJust P n → ((k : ℕ) → P k → HasPlace m k)
    → IsSubset n m
subset_from_places P n m just sub = (
  (λ k set.
      let small = just.low k set in
      elim (sub k (just.only k (inl (small, set))))
      [ inl a ↦ a.1 | inr b ↦ absurd (omega (arith, b.0, small)) ]),
  (λ k set.
      let back : 64 + k - 64 ≡ k = omega arith in
      elim (sub (64 + k) (just.only (64 + k) (inr (omega arith, ap (bit_at n.high) back ∙ set)))) [
        | inl a ↦ absurd (omega (arith, a.0))
        | inr b ↦ sym (ap (bit_at m.high) back) ∙ b.1
      ]),
)

-- the place's term is one of the set
abbrev IsIn : List Term → List Term → ℕ → Type 0
IsIn table s k = (t : Term) × (slice_get table k ≡ Some t) × Contains s t

is_in : (s : List Term) (o : Option Term)
    → ((t : Term) × (o ≡ Some t) × Contains s t) ⊎ (((t : Term) × (o ≡ Some t) × Contains s t) → ⊥)
is_in s None = inr (λ h. let e : None ≡ Some h.0 = h.1 in absurd (cc))
is_in s (Some t) =
    elim (is_listed s t) [
      | inl a ↦ inl (t, refl, a)
      | inr b ↦ inr (λ h. let e : h.0 ≡ t = (let f : Some t ≡ Some h.0 = h.1 in cc) in
          b (subst (Contains s) e h.2))
    ]

pub satisfied_contains : (table : List Term) (e : Tree) (xs : List Mask) (s : List Term)
    → IsTableFor table e → AreMinimal table e xs → Holds (Contains s) e
    → (x : Mask) × Contains xs x × ((t : Term) → Chosen table x t → Contains s t)
satisfied_contains table e xs s fit minimal holds =
    let found = mask_of (IsIn table s) (λ k. is_in s (slice_get table k)) in
    let m = found.0 in
    let chosen = holds_on_leaves (Contains s) (Chosen table m) e
    (λ t leaf in_s.
    let at = fit.listed t leaf in
    let got : slice_get table at.0 ≡ Some t =
    slice_get_read table (length table) at.0 t refl at.1 (sym at.2) in
    (at.0, got, found.1.each at.0 (omega (arith, at.1, fit.few)) (t, got, in_s))) holds in
    let a = (minimal.exact m).0 chosen in (
      a.1,
      (a.0, a.2, a.3),
      (λ t c.
          let p = found.1.only c.0 (subset_place a.1 m c.0 a.4 c.2) in
          subst (Contains s) (same_item table c.0 c.0 p.0 t refl p.1 c.1) p.2),
    )

-- ---- every minimal set of terms is a listed one

place_cases : (m : Mask) (k : ℕ) → HasPlace m k ⊎ (HasPlace m k → ⊥)
place_cases m k =
    ⊎_elim
    (λ below. elim (cases_eq (bit_at m.low k) 1) [
      | inl set ↦ inl (inl (below, set))
      | inr unset ↦ inr (λ has. elim has [ inl a ↦ unset a.1 | inr b ↦ omega (arith, b.0, below) ])
    ])
    (λ above. elim (cases_eq (bit_at m.high (k - 64)) 1) [
      | inl set ↦ inl (inr (above, set))
      | inr unset ↦ inr (λ has. elim has [ inl a ↦ omega (arith, a.0, above) | inr b ↦ unset b.1 ])
    ])
    (order k 64)

abbrev AtPlace : List Term → (ℕ → Type 0) → Term → Type 0
AtPlace ts P t = (i : ℕ) × (slice_get ts i ≡ Some t) × P i

at_rest : (x : Term) (xs : List Term) (P : ℕ → Type 0) (t : Term) → AtPlace xs (λ k. P (suc k)) t
    → AtPlace (x ∷ xs) P t
at_rest x xs P t h = (suc h.0, h.1, h.2)

at_cases : (x : Term) (xs : List Term) (P : ℕ → Type 0) (t : Term) → AtPlace (x ∷ xs) P t
    → ((x ≡ t) × P 0) ⊎ AtPlace xs (λ k. P (suc k)) t
at_cases x xs P t (zero, at, p) = inl (let e : Some x ≡ Some t = at in let f : x ≡ t = cc in f, p)
at_cases x xs P t (suc i, at, p) = inr (i, at, p)

at_none : (P : ℕ → Type 0) (t : Term) → AtPlace [] P t → ⊥
at_none P t (zero, at, p) = let e : None ≡ Some t = at in cc
at_none P t (suc i, at, p) = let e : None ≡ Some t = at in cc

at_listed : (xs : List Term) (P : ℕ → Type 0) (t : Term) → AtPlace xs P t → Contains xs t
at_listed xs P t h = (h.0, slice_get_within xs h.0 t h.1, get_or_from_slice_get xs h.0 t t h.1)

list_by : (P : ℕ → Type 0) → ((k : ℕ) → P k ⊎ (P k → ⊥)) → (ts : List Term) → IsTermSet ts
    → (few : List Term) × IsTermSet few × ((t : Term) → Contains few t ↔ AtPlace ts P t)
list_by P dec [] up = (
  [],
  up,
  λ t. ((λ at. absurd (omega (arith, at.1))), (λ h. absurd (at_none P t h))),
)
list_by P dec (x ∷ xs) up =
    let rest = list_by (λ k. P (suc k)) (λ k. dec (suc k)) xs (sorted_tail term_order x xs up) in
    elim (dec 0) [
      | inl p ↦ (
        x ∷ rest.0,
        sorted_consed x rest.0 rest.1
            (λ y at. head_below x y xs up (at_listed xs (λ k. P (suc k)) y ((rest.2 y).0 at))),
        λ t. (
          (λ at. elim (contains_cases x rest.0 t at)
              [ inl e ↦ (0, ap Some e, p) | inr c ↦ at_rest x xs P t ((rest.2 t).0 c) ]),
          (λ h. elim (at_cases x xs P t h) [
            | inl a ↦ contains_here x rest.0 t a.0
            | inr b ↦ is_later x rest.0 t ((rest.2 t).1 b)
          ]),
        ),
      )
      | inr isnt ↦ (
        rest.0,
        rest.1,
        λ t. (
          (λ at. at_rest x xs P t ((rest.2 t).0 at)),
          (λ h. elim (at_cases x xs P t h) [ inl a ↦ absurd (isnt a.1) | inr b ↦ (rest.2 t).1 b ]),
        ),
      )
    ]

-- the set of the terms that a set of places chooses
pub choice_of : (table : List Term) (m : Mask) → IsTermSet table
    → (s : List Term) × IsChoice table m s
choice_of table m up = let own = list_by (HasPlace m) (place_cases m) table up in
    (own.0, (own.1, own.2))

pub minimal_is_listed : (table : List Term) (e : Tree) (xs : List Mask) (s : List Term)
    → IsTableFor table e → AreMinimal table e xs → IsMinimal s e
    → (x : Mask) × Contains xs x × ((t : Term) → Contains s t ↔ Chosen table x t)
minimal_is_listed table e xs s fit minimal least =
    let inside = satisfied_contains table e xs s fit minimal least.0 in
    let x = inside.0 in
    let own = choice_of table x fit.ordered in
    let holds = (minimal.exact x).1
    (inside.1.0, x, inside.1.1, inside.1.2, ((λ k h. h), (λ k h. h))) in (
      x,
      inside.1,
      (λ t. (
        (λ at. elim (is_listed own.0 t) [
          | inl c ↦ (own.1.1 t).0 c
          | inr lacks ↦ absurd (least.1 own.0 ((λ u c. inside.2 u ((own.1.1 u).0 c)), t, at, lacks)
              (holds_more (Chosen table x) (Contains own.0) (λ u c. (own.1.1 u).1 c) e holds))
        ]),
        inside.2 t,
      )),
    )

-- ---- minimal among the sets of places is minimal among the lists of terms

other_cases : (m : Mask) (k j : ℕ) → (HasPlace m j × (j ≢ k)) ⊎ ((HasPlace m j × (j ≢ k)) → ⊥)
other_cases m k j =
    elim (place_cases m j) [
      | inl has ↦ elim (cases_eq j k) [ inl is ↦ inr (λ h. h.1 is) | inr ne ↦ inl (has, ne) ]
      | inr lacks ↦ inr (λ h. lacks h.0)
    ]

pub minimal_choice : (table : List Term) (e : Tree) (m : Mask) (chosen : List Term)
    → length table ≤ 128 → IsMinimalMask table e m
    → ((t : Term) → Contains chosen t ↔ Chosen table m t) → IsMinimal chosen e
minimal_choice table e m chosen few minimal same =
    minimal_if_none_can_go chosen e (holds_more _ _ (λ t c. (same t).1 c) e minimal.0)
    (λ i within go.
    let t = go.0 in
    let there = (same t).0 (
      i,
      slice_get_within chosen i t go.1,
      get_or_from_slice_get chosen i t t go.1,
    ) in
    let k = there.0 in
    let rest = mask_of (λ j. HasPlace m j × (j ≢ k)) (other_cases m k) in
    let n = rest.0 in
    let holds = holds_more (Without chosen t) (Chosen table n)
    (λ u w.
    let c = (same u).0 w.0 in
    let small = slice_get_within table c.0 u c.1 in (
      c.0,
      c.1,
      rest.1.each c.0 (omega (arith, small, few))
          (c.2, λ is. w.1 (same_item table c.0 k u t is c.1 there.1)),
    )) e go.2 in
    let sub = subset_from_places (λ j. HasPlace m j × (j ≢ k)) n m rest.1 (λ j p. p.0) in
    (rest.1.only k (subset_place m n k (minimal.1 n sub holds) there.2)).1 refl)

-- the place is in the set, and some term of the table is there
abbrev InTable : List Term → Mask → ℕ → Type 0
InTable table m k = ((t : Term) × (slice_get table k ≡ Some t)) × HasPlace m k

term_at : (o : Option Term) → ((t : Term) × (o ≡ Some t)) ⊎ (((t : Term) × (o ≡ Some t)) → ⊥)
term_at None = inr (λ h. let e : None ≡ Some h.0 = h.1 in absurd (cc))
term_at (Some t) = inl (t, refl)

in_table : (table : List Term) (m : Mask) (k : ℕ) → InTable table m k ⊎ (InTable table m k → ⊥)
in_table table m k =
    elim (place_cases m k) [
      | inr lacks ↦ inr (λ h. lacks h.1)
      | inl has ↦ elim (term_at (slice_get table k))
          [ inl t ↦ inl (t, has) | inr none ↦ inr (λ h. none h.0) ]
    ]

-- a minimal set of places has only places of the table, so it is a subset if its terms are
pub subset_from_chosen : (table : List Term) (e : Tree) (x y : Mask) → IsTermSet table
    → length table ≤ 128 → IsMinimalMask table e x
    → ((t : Term) → Chosen table x t → Chosen table y t) → IsSubset x y
subset_from_chosen table e x y up few minimal sub =
    let inside = mask_of (InTable table x) (in_table table x) in
    let n = inside.0 in
    let below = subset_from_places (InTable table x) n x inside.1 (λ k p. p.1) in
    let holds = holds_more (Chosen table x) (Chosen table n)
    (λ t c. (
      c.0,
      c.1,
      inside.1.each c.0 (let small = slice_get_within table c.0 t c.1 in omega (arith, small, few))
          ((t, c.1), c.2),
    )) e minimal.0 in
    let above = subset_from_places (InTable table x) n y inside.1
    (λ k p.
    let c = sub p.0.0 (k, p.0.1, p.1) in
    subst (HasPlace y) (distinct_table table up c.0 k p.0.0 c.1 p.0.1) c.2) in
    subset_through x n y (minimal.1 n below holds) above
  where
    subset_through : (a b c : Mask) → IsSubset a b → IsSubset b c → IsSubset a c
    subset_through a b c p q = ((λ k h. q.0 k (p.0 k h)), (λ k h. q.1 k (p.1 k h)))

-- ---- the terms at the places of a set

-- the set has the terms that are at its places below this one
pub record AreBelow (table : List Term) (m : Mask) (xs : List Term) (place : ℕ) : Type 0 where
  pub ordered : IsTermSet xs
  pub few : length xs ≤ place
  pub members : (t : Term) → Contains xs t
      ↔ ((k : ℕ) × (k < place) × (slice_get table k ≡ Some t) × HasPlace m k)

pub terms_start : (table : List Term) (m : Mask) (xs : List Term) → xs ≡ [] → AreBelow table m xs 0
terms_start table m xs none =
    subst (λ (l : List Term). AreBelow table m l 0) (sym none)
    record {
      ordered = sorted_none;
      few = omega arith;
      members = λ t. ((λ at. absurd (omega (arith, at.1))), (λ h. absurd (omega (arith, h.1))));
    }

pub terms_more : (table : List Term) (m : Mask) (place : ℕ) (xs ys : List Term) (x : Term)
    → IsTermSet table → slice_get table place ≡ Some x → HasPlace m place → ys ≡ xs ++ x ∷ []
    → AreBelow table m xs place → AreBelow table m ys (place + 1)
terms_more table m place xs ys x up at has is below =
    subst (λ (l : List Term). AreBelow table m l (place + 1)) (sym is)
    record {
      ordered = sorted_pushed xs x below.ordered
          (λ y c.
          let old = (below.members y).0 c in
          let within = slice_get_within table place x at in
          let less = Less-from_sorted term_order table old.0 place y up old.1 within in
          ap₂ term_order (sym (get_or_from_slice_get table old.0 y y old.2))
          (sym (get_or_from_slice_get table place x y at)) ∙ less);
      few = simp length-append (omega (arith, below.few));
      members = λ t. (
        (λ c. elim (Contains-push_cases xs x t c) [
          | inl a ↦ let old = (below.members t).0 a in (old.0, omega (arith, old.1), old.2, old.3)
          | inr e ↦ (place, omega arith, at ∙ ap Some e, has)
        ]),
        (λ h.
            elim (cases_eq h.0 place) [
              | inl same ↦ subst (Contains (xs ++ x ∷ []))
                  (same_item table place h.0 x t (sym same) at h.2) (Contains-push xs x)
              | inr other ↦ Contains-append_left xs (x ∷ []) t
                  ((below.members t).1 (h.0, omega (arith, h.1, other), h.2, h.3))
            ]),
      );
    }

pub terms_same : (table : List Term) (m : Mask) (place : ℕ) (xs ys : List Term) → ys ≡ xs
    → (HasPlace m place → ⊥) → AreBelow table m xs place → AreBelow table m ys (place + 1)
terms_same table m place xs ys is lacks below =
    subst (λ (l : List Term). AreBelow table m l (place + 1)) (sym is)
    record {
      ordered = below.ordered;
      few = omega (arith, below.few);
      members = λ t. (
        (λ c. let old = (below.members t).0 c in (old.0, omega (arith, old.1), old.2, old.3)),
        (λ h. (below.members t).1 (
          h.0,
          (elim (cases_eq h.0 place) [
            | inl same ↦ absurd (lacks (subst (HasPlace m) same h.3))
            | inr ne ↦ (let lt : h.0 < place = omega (arith, h.1, ne) in lt)
          ]),
          h.2,
          h.3,
        )),
      );
    }

pub terms_all : (table : List Term) (m : Mask) (place : ℕ) (xs : List Term) → length table ≤ place
    → AreBelow table m xs place → IsChoice table m xs
terms_all table m place xs whole below = (
  below.ordered,
  λ t. (
    (λ c. let old = (below.members t).0 c in (old.0, old.2, old.3)),
    (λ h. (below.members t).1 (
      h.0,
      (let within = slice_get_within table h.0 t h.1 in
          let lt : h.0 < place = omega (arith, within, whole) in lt),
      h.1,
      h.2,
    )),
  ),
)
