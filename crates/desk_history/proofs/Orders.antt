-- A filter of sorted rows.
use Rattle.std.proofs.Common.{◌≡◌, Bool, true, false, cond, List, [], ◌∷◌, sym, refl, ◌∙◌}
use Rattle.std.specs.Prelude.{if◌then◌else◌, filter, not}
use Rattle.std.specs.List.{list_all}
use Rattle.std.proofs.lemmas.Cmp.{on_total, then_total, nat_list_cmp_total, nat_cmp_total}
use Rattle.std.proofs.lemmas.Bool.{and_from, not-true}
use Rattle.desk_model.specs.Lists.{put, in_order, over, ascends}
use Rattle.desk_model.specs.Keys.{below_by, attached_order, choice_order}
use Rattle.desk_base.proofs.Bools.{and_left, and_right}
use Rattle.desk_model.proofs.Orders.{IsOrder, order_of, ascends-put}

pub ascends-in_order : {A : Type 0} (below : A → A → Bool) → IsOrder below → (xs : List A)
    → ascends below (in_order below xs) ≡ true
ascends-in_order below o [] = refl
ascends-in_order below o (x ∷ xs) = ascends-put below o x (in_order below xs)
    (ascends-in_order below o xs)

-- a row below all of these precedes them
abbrev pub under : {A : Type 0} → (A → A → Bool) → A → List A → Bool
under below x zs = list_all (below x) zs

pub put_first : {A : Type 0} (below : A → A → Bool) (x : A) (ys : List A) → under below x ys ≡ true
    → put below x ys ≡ x ∷ ys
put_first below x [] all = refl
put_first below x (y ∷ ys) all = rw (and_left (below x y) (under below x ys) all) refl

under_over : {A : Type 0} (below : A → A → Bool) → IsOrder below
    → (test : A → Bool) (x y : A) (zs : List A) → below x y ≡ true → over below y zs ≡ true
    → under below x (filter test zs) ≡ true
under_over below o test x y [] e all = refl
under_over below o test x y (z ∷ zs) e all =
    let here : below x z ≡ true =
    o.between x y z e (not-true (below z y) (and_left (not (below z y)) (over below y zs) all)) in
    let rest = under_over below o test x y zs e
    (and_right (not (below z y)) (over below y zs) all) in
    elim (test z) as (λ b. under below x (cond b (z ∷ filter test zs) (filter test zs)) ≡ true) [
      | true ↦ and_from (below x z) (under below x (filter test zs)) here rest
      | false ↦ rest
    ]

-- the row in its place, if it passes
abbrev pub put_if : {A : Type 0} → (A → A → Bool) → Bool → A → List A → List A
put_if below kept x ys = if kept then put below x ys else ys

filter_here : {A : Type 0} (below : A → A → Bool) → IsOrder below
    → (test : A → Bool) (x y : A) (ys : List A) → below x y ≡ true → over below y ys ≡ true
    → filter test (x ∷ y ∷ ys) ≡ put_if below (test x) x (filter test (y ∷ ys))
filter_here below o test x y ys e all =
    let rest : under below x (filter test (y ∷ ys)) ≡ true =
    elim (test y) as (λ b. under below x (cond b (y ∷ filter test ys) (filter test ys)) ≡ true) [
      | true ↦ and_from (below x y) (under below x (filter test ys)) e
          (under_over below o test x y ys e all)
      | false ↦ under_over below o test x y ys e all
    ] in
    elim (test x) as (λ b. cond b (x ∷ filter test (y ∷ ys)) (filter test (y ∷ ys))
    ≡ put_if below b x (filter test (y ∷ ys))) [
      | true ↦ sym (put_first below x (filter test (y ∷ ys)) rest)
      | false ↦ refl
    ]

filter_later : {A : Type 0} (below : A → A → Bool) (test : A → Bool) (x y : A) (ys : List A)
    (b : Bool) → below x y ≡ false
    → filter test (put below x ys) ≡ put_if below b x (filter test ys)
    → cond (test y) (y ∷ filter test (put below x ys)) (filter test (put below x ys))
    ≡ put_if below b x (cond (test y) (y ∷ filter test ys) (filter test ys))
filter_later below test x y ys true e rest =
    rw rest (elim (test y) as (λ c. cond c (y ∷ put below x (filter test ys))
    (put below x (filter test ys)) ≡ put below x (cond c (y ∷ filter test ys) (filter test ys))) [
      | true ↦ rw e refl
      | false ↦ refl
    ])
filter_later below test x y ys false e rest = rw rest refl

filter_step : {A : Type 0} (below : A → A → Bool) → IsOrder below
    → (test : A → Bool) (x y : A) (ys : List A) (b : Bool) → below x y ≡ b
    → ascends below (y ∷ ys) ≡ true
    → filter test (put below x ys) ≡ put_if below (test x) x (filter test ys)
    → filter test (if b then x ∷ y ∷ ys else y ∷ put below x ys)
    ≡ put_if below (test x) x (filter test (y ∷ ys))
filter_step below o test x y ys true e up rest = filter_here below o test x y ys e
    (and_left (over below y ys) (ascends below ys) up)
filter_step below o test x y ys false e up rest = filter_later below test x y ys (test x) e rest

pub filter-put : {A : Type 0} (below : A → A → Bool) → IsOrder below
    → (test : A → Bool) (x : A) (ys : List A) → ascends below ys ≡ true
    → filter test (put below x ys) ≡ put_if below (test x) x (filter test ys)
filter-put below o test x [] up = elim (test x) as (λ b. cond b (x ∷ []) [] ≡ put_if below b x [])
    [ true ↦ refl | false ↦ refl ]
filter-put below o test x (y ∷ ys) up = filter_step below o test x y ys (below x y) refl up
    (filter-put below o test x ys (and_right (over below y ys) (ascends below ys) up))

-- a filter of sorted rows is the sorted filter
pub filter-in_order : {A : Type 0} (below : A → A → Bool) → IsOrder below
    → (test : A → Bool) (xs : List A)
    → filter test (in_order below xs) ≡ in_order below (filter test xs)
filter-in_order below o test [] = refl
filter-in_order below o test (x ∷ xs) =
    filter-put below o test x (in_order below xs) (ascends-in_order below o xs)
    ∙ rw (filter-in_order below o test xs)
    (elim (test x) as (λ b. put_if below b x (in_order below (filter test xs))
    ≡ in_order below (cond b (x ∷ filter test xs) (filter test xs))) [ true ↦ refl | false ↦ refl ])

-- the orders of the tables
pub attached_is_order : IsOrder (below_by attached_order)
attached_is_order = order_of (then_total (on_total (λ row. row.release) nat_list_cmp_total)
    (on_total (λ row. row.document) nat_cmp_total))

pub choice_is_order : IsOrder (below_by choice_order)
choice_is_order =
    order_of (then_total (on_total (λ row. row.release) nat_list_cmp_total)
    (then_total (on_total (λ row. row.document) nat_cmp_total)
    (then_total (on_total (λ row. row.package_id) nat_list_cmp_total)
    (on_total (λ row. row.term) nat_list_cmp_total))))
