-- Blocks that are gone through one by one.
use Rattle.std.proofs.Common.{◌≡◌, ℕ, suc, ◌+◌, ◌-◌, ◌<◌, ◌≤◌, Bool, true, false, cond, List, []}
use Rattle.std.proofs.Common.{◌∷◌, ◌++◌, length, take, drop, get_or, set, Some, None, sym, refl, ap}
use Rattle.std.proofs.Common.{◌∙◌, arith, Bor}
use Rattle.std.specs.Prelude.{filter, find, is_some, ◌||◌, not, slice_get, Option, Result, Ok, Err, IfOk, Vec}
use Rattle.std.specs.List.{list_all, list_any}
use Rattle.std.specs.Option.{option_copied, option_or}
use Rattle.std.specs.Ordering.{is_eq, ordering_index}
use Rattle.std.specs.declared.alloc.Global.{Global}
use Rattle.std.specs.declared.cmp.Ordering.{Ordering}
use Rattle.std.specs.declared.cmp.Ordering.TheVariants.{Less, Equal, Greater}
use Rattle.std.proofs.lemmas.List.{append-nil, append_assoc, take_at, length-append, length-drop}
use Rattle.std.proofs.lemmas.List.{length-take-le, drop-set-lt, drop_more}
use Rattle.std.proofs.lemmas.List.Elements.{filter-append}
use Rattle.std.proofs.lemmas.List.Folds.{find-append}
use Rattle.std.proofs.lemmas.Grind.{flat_map-append, take-set_at}
use Rattle.std.proofs.lemmas.Bool.{and_from, not-true}
use Rattle.desk_model.specs.Lists.{ascends}
use Rattle.desk_model.specs.Keys.{below_by}
use Rattle.desk_model.proofs.Orders.{IsOrder}
use Rattle.desk_sorted.specs.Blocks.{is_between, rows_in}
use Rattle.desk_sorted.specs.Sorted.{IsSideOf}
use Rattle.desk_sorted.proofs.Blocking.{ascends_front, ascends_back}
use Rattle.desk_sorted.proofs.Changing.{drop_at}
use Rattle.desk_sorted.proofs.Searching.{drop_further}
use Rattle.desk_base.proofs.Bools.{and_left, and_right, or_left, or_right, contrary}
use Rattle.desk_base.proofs.Lists.{first_found}

-- rows that are moved to the end, and cut off there
pub turned_out : {A : Type 0} (xs : List A) (low high left : ℕ) → low ≤ high → high ≤ length xs
    → left + (high - low) ≡ length xs
    → take left (take low xs ++ (drop (high - low) (drop low xs)
    ++ take (high - low) (drop low xs))) ≡ take low xs ++ drop high xs
turned_out xs low high left le within e =
    let front = take low xs in
    let back = drop (high - low) (drop low xs) in
    let gone = take (high - low) (drop low xs) in
    let inside : low ≤ length xs = omega (arith, le, within) in
    let far : low + (high - low) ≡ high = omega (arith, le) in
    let many : length (front ++ back) ≡ left =
    omega (
      arith,
      length-append front back,
      length-take-le low xs inside,
      length-drop (high - low) (drop low xs),
      length-drop low xs,
      le,
      within,
      e,
    ) in
    ap (take left) (sym (append_assoc front back gone))
    ∙ (take_at (front ++ back) gone left many
    ∙ ap (λ l. front ++ l) (drop_further low (high - low) high xs far))

-- the next block

pub block_ascends : {R : Type 0} (below : R → R → Bool) (bs : List (Vec R Global)) (i : ℕ)
    (d : Vec R Global) → i < length bs → ascends below (rows_in (drop i bs)) ≡ true
    → ascends below (get_or bs i d).items ≡ true
block_ascends {R = R} below bs i d lt up =
    ascends_front below (get_or bs i d).items (rows_in (drop (i + 1) bs))
    (ap (λ (l : List (Vec R Global)). ascends below (rows_in l)) (sym (drop_more bs i d lt)) ∙ up)

-- the rows of a block, seen as a slice
module _ {R : Type 0} (bs : List (Vec R Global)) (i : ℕ) (d : Vec R Global) {slice : List R}
    (seen : slice ≡ d.items) (is : d ≡ get_or bs i d) where
  pub slice_is : slice ≡ (get_or bs i d).items
  slice_is = seen ∙ ap (λ (b : Vec R Global). b.items) is

  pub slice_ascends : (below : R → R → Bool) → i < length bs
      → ascends below (rows_in (drop i bs)) ≡ true → ascends below slice ≡ true
  slice_ascends below lt up = ap (ascends below) slice_is ∙ block_ascends below bs i d lt up

  pub slice_found : (test : R → Bool) {found : List R} → found ≡ filter test slice
      → found ≡ filter test (get_or bs i d).items
  slice_found test found = found ∙ ap (filter test) slice_is

pub rest_ascends : {R : Type 0} (below : R → R → Bool) (bs : List (Vec R Global)) (i : ℕ)
    (d : Vec R Global) → i < length bs → ascends below (rows_in (drop i bs)) ≡ true
    → ascends below (rows_in (drop (i + 1) bs)) ≡ true
rest_ascends {R = R} below bs i d lt up =
    ascends_back below (get_or bs i d).items (rows_in (drop (i + 1) bs))
    (ap (λ (l : List (Vec R Global)). ascends below (rows_in l)) (sym (drop_more bs i d lt)) ∙ up)

-- a block and those after it
pub parted : {R : Type 0} (bs : List (Vec R Global)) (at : ℕ) (b : Vec R Global)
    (back : List (Vec R Global)) → at < length bs → drop at bs ≡ b ∷ back
    → (b ≡ get_or bs at b) × (back ≡ drop (suc at) bs)
parted bs at b back lt e =
    let and_from : b ∷ back ≡ get_or bs at b ∷ drop (suc at) bs = sym e ∙ drop_at bs at b lt in
    (cc, cc)

-- the first that is sought

pub find_same : {A : Type 0} (test : A → Bool) (xs ys : List A) → filter test xs ≡ filter test ys
    → find test xs ≡ find test ys
find_same test xs ys e = sym (first_found test xs)
    ∙ (ap (λ l. slice_get l 0) e ∙ first_found test ys)

pub find_split : {R : Type 0} (test : R → Bool) (bs : List (Vec R Global)) (i : ℕ)
    (d : Vec R Global) → i < length bs
    → find test (rows_in (drop i bs))
    ≡ option_or (find test (get_or bs i d).items) (find test (rows_in (drop (i + 1) bs)))
find_split {R = R} test bs i d lt =
    ap (λ (l : List (Vec R Global)). find test (rows_in l)) (drop_more bs i d lt)
    ∙ find-append test (get_or bs i d).items (rows_in (drop (i + 1) bs))

pub find_here : {R : Type 0} (test : R → Bool) (bs : List (Vec R Global)) (i : ℕ) (d : Vec R Global)
    (x : R) → i < length bs → Some x ≡ find test (get_or bs i d).items
    → Some x ≡ find test (rows_in (drop i bs))
find_here test bs i d x lt e =
    sym (find_split test bs i d lt
    ∙ ap (λ o. option_or o (find test (rows_in (drop (i + 1) bs)))) (sym e))

pub find_later : {R : Type 0} (test : R → Bool) (bs : List (Vec R Global)) (i : ℕ)
    (d : Vec R Global) → i < length bs → None ≡ find test (get_or bs i d).items
    → find test (rows_in (drop (i + 1) bs)) ≡ find test (rows_in (drop i bs))
find_later test bs i d lt e =
    sym (find_split test bs i d lt
    ∙ ap (λ o. option_or o (find test (rows_in (drop (i + 1) bs)))) (sym e))

pub find_any : {A : Type 0} (test : A → Bool) (xs : List A)
    → is_some (find test xs) ≡ list_any test xs
find_any test [] = refl
find_any test (x ∷ xs) = elim (test x) as
    (λ b. is_some (cond b (Some x) (find test xs)) ≡ (b || list_any test xs))
    [ true ↦ refl | false ↦ find_any test xs ]

-- the rows of one more block

pub filter_split : {R : Type 0} (test : R → Bool) (bs : List (Vec R Global)) (i : ℕ)
    (d : Vec R Global) → i < length bs
    → filter test (rows_in (drop i bs)) ≡ filter test (get_or bs i d).items
    ++ filter test (rows_in (drop (i + 1) bs))
filter_split {R = R} test bs i d lt =
    ap (λ (l : List (Vec R Global)). filter test (rows_in l)) (drop_more bs i d lt)
    ∙ filter-append test (get_or bs i d).items (rows_in (drop (i + 1) bs))

pub more_found : {R : Type 0} (test : R → Bool) (bs : List (Vec R Global)) (i : ℕ)
    (d : Vec R Global) (found more : List R) → i < length bs
    → more ≡ found ++ filter test (get_or bs i d).items
    → more ++ filter test (rows_in (drop (i + 1) bs)) ≡ found ++ filter test (rows_in (drop i bs))
more_found test bs i d found more lt e =
    ap (λ l. l ++ filter test (rows_in (drop (i + 1) bs))) e
    ∙ (append_assoc found (filter test (get_or bs i d).items)
    (filter test (rows_in (drop (i + 1) bs)))
    ∙ ap (λ l. found ++ l) (sym (filter_split test bs i d lt)))

pub one_cut : {R : Type 0} (left : R → Bool) (bs : List (Vec R Global)) (i : ℕ) (b d : Vec R Global)
    → i < length bs → b.items ≡ filter left (get_or bs i d).items
    → rows_in (take (i + 1) (set bs i b)) ++ filter left (rows_in (drop (i + 1) (set bs i b)))
    ≡ rows_in (take i bs) ++ filter left (rows_in (drop i bs))
one_cut {R = R} left bs i b d lt e =
    let next : i + 1 ≡ i + 1 = refl in
    let after : i < i + 1 = omega arith in
    let taken : rows_in (take (i + 1) (set bs i b)) ≡ rows_in (take i bs) ++ b.items =
    ap (λ (l : List (Vec R Global)). rows_in l) (take-set_at bs i (i + 1) b next lt)
    ∙ (flat_map-append (λ (x : Vec R Global). x.items) (take i bs) (b ∷ [])
    ∙ ap (λ l. rows_in (take i bs) ++ l) (append-nil b.items)) in
    ap (λ (l : List (Vec R Global)). rows_in (take (i + 1) (set bs i b)) ++ filter left (rows_in l))
    (drop-set-lt (i + 1) bs i b after)
    ∙ more_found left bs i d (rows_in (take i bs)) (rows_in (take (i + 1) (set bs i b))) lt
    (taken ∙ ap (λ l. rows_in (take i bs) ++ l) e)

-- a part of the blocks that changes

pub rows_put : {R : Type 0} (front middle back : List (Vec R Global))
    → rows_in (front ++ (middle ++ back)) ≡ rows_in front ++ (rows_in middle ++ rows_in back)
rows_put {R = R} front middle back =
    flat_map-append (λ (x : Vec R Global). x.items) front (middle ++ back)
    ∙ ap (λ l. rows_in front ++ l) (flat_map-append (λ (x : Vec R Global). x.items) middle back)

-- rows that are sought replace others that were sought

sides_meet : (p o q : Ordering) → is_eq p ≡ true → is_eq q ≡ true
    → ordering_index p ≤ ordering_index o → ordering_index o ≤ ordering_index q → is_eq o ≡ true
sides_meet Less o q e f a b = cc
sides_meet Greater o q e f a b = cc
sides_meet Equal o Less e f a b = cc
sides_meet Equal o Greater e f a b = cc
sides_meet Equal Less Equal e f a b = absurd (omega (arith, a))
sides_meet Equal Equal Equal e f a b = refl
sides_meet Equal Greater Equal e f a b = absurd (omega (arith, b))

module _ {A : Type 0} (order : A → A → Ordering) (o : IsOrder (below_by order))
    (side : A → Ordering) (splits : IsSideOf order side) (at : A → Bool)
    (meets : (x : A) → at x ≡ is_eq (side x)) (first row : A) (here : at first ≡ true)
    (too : at row ≡ true) where
  not_front : (x : A) (v : Bool) → below_by order row x ≡ v → at x ≡ false
      → below_by order first x ≡ false → v ≡ false
  not_front x false e out f = refl
  not_front x true e out f =
      absurd (contrary (at x) (meets x
      ∙ sides_meet (side row) (side x) (side first) (sym (meets row) ∙ too)
      (sym (meets first) ∙ here) (splits row x (o.asym row x e)) (splits x first f)) out)

  yet_back : (x : A) (v : Bool) → below_by order row x ≡ v → at x ≡ false
      → below_by order first x ≡ true → v ≡ true
  yet_back x true e out f = refl
  yet_back x false e out f =
      absurd (contrary (at x) (meets x
      ∙ sides_meet (side first) (side x) (side row) (sym (meets first) ∙ here)
      (sym (meets row) ∙ too) (splits first x (o.asym first x f)) (splits x row e)) out)

  front_step : (x : A) (xs : List A) (v : Bool) → at x ≡ v → below_by order first x ≡ false
      → list_any (below_by order row) (filter (λ y. not (at y)) xs) ≡ false
      → list_any (below_by order row)
      (cond (not v) (x ∷ filter (λ y. not (at y)) xs) (filter (λ y. not (at y)) xs)) ≡ false
  front_step x xs true e f rest = rest
  front_step x xs false e f rest = rw (not_front x (below_by order row x) refl e f) rest

  front_kept : (xs : List A) → list_any (below_by order first) xs ≡ false
      → list_any (below_by order row) (filter (λ y. not (at y)) xs) ≡ false
  front_kept [] e = refl
  front_kept (x ∷ xs) e =
      front_step x xs (at x) refl (or_left (below_by order first x)
      (list_any (below_by order first) xs) e)
      (front_kept xs (or_right (below_by order first x) (list_any (below_by order first) xs) e))

  back_step : (x : A) (xs : List A) (v : Bool) → at x ≡ v → below_by order first x ≡ true
      → list_all (below_by order row) (filter (λ y. not (at y)) xs) ≡ true
      → list_all (below_by order row)
      (cond (not v) (x ∷ filter (λ y. not (at y)) xs) (filter (λ y. not (at y)) xs)) ≡ true
  back_step x xs true e f rest = rest
  back_step x xs false e f rest = rw (yet_back x (below_by order row x) refl e f) rest

  back_kept : (xs : List A) → list_all (below_by order first) xs ≡ true
      → list_all (below_by order row) (filter (λ y. not (at y)) xs) ≡ true
  back_kept [] e = refl
  back_kept (x ∷ xs) e =
      back_step x xs (at x) refl (and_left (below_by order first x)
      (list_all (below_by order first) xs) e)
      (back_kept xs (and_right (below_by order first x) (list_all (below_by order first) xs) e))

  between_kept : (front back : List A) → is_between (below_by order) front back first ≡ true
      → is_between (below_by order) (filter (λ y. not (at y)) front) (filter (λ y. not (at y)) back)
      row ≡ true
  between_kept front back e =
      and_from (not (list_any (below_by order row) (filter (λ y. not (at y)) front)))
      (list_all (below_by order row) (filter (λ y. not (at y)) back))
      (ap not (front_kept front (not-true (list_any (below_by order first) front)
      (and_left (not (list_any (below_by order first) front)) (list_all (below_by order first) back)
      e))))
      (back_kept back (and_right (not (list_any (below_by order first) front))
      (list_all (below_by order first) back) e))

pub all_between : {A : Type 0} (order : A → A → Ordering) → IsOrder (below_by order)
    → (side : A → Ordering) → IsSideOf order side → (at : A → Bool)
    → ((x : A) → at x ≡ is_eq (side x)) → (first : A) (front back more : List A) → at first ≡ true
    → list_all at more ≡ true → is_between (below_by order) front back first ≡ true
    → list_all (is_between (below_by order) (filter (λ y. not (at y)) front)
    (filter (λ y. not (at y)) back)) more ≡ true
all_between order o side splits at meets first front back [] here all e = refl
all_between order o side splits at meets first front back (x ∷ xs) here all e =
    and_from (is_between (below_by order) (filter (λ y. not (at y)) front)
    (filter (λ y. not (at y)) back) x)
    (list_all (is_between (below_by order) (filter (λ y. not (at y)) front)
    (filter (λ y. not (at y)) back)) xs)
    (between_kept order o side splits at meets first x here (and_left (at x) (list_all at xs) all)
    front back e)
    (all_between order o side splits at meets first front back xs here
    (and_right (at x) (list_all at xs) all) e)

pub first_at : {A : Type 0} (at : A → Bool) (more : List A) (first : A)
    → Some first ≡ slice_get more 0 → list_all at more ≡ true → at first ≡ true
first_at at [] first e all = cc
first_at at (x ∷ xs) first e all = let same : first ≡ x = cc in ap at same
    ∙ and_left (at x) (list_all at xs) all

between_nothing : {A : Type 0} (below : A → A → Bool) (more : List A)
    → list_all (is_between below [] []) more ≡ true
between_nothing below [] = refl
between_nothing below (x ∷ xs) = between_nothing below xs

pub between_none : {A : Type 0} (below : A → A → Bool) (back more : List A) → back ≡ []
    → list_all (is_between below [] back) more ≡ true
between_none below back more e = ap (λ b. list_all (is_between below [] b) more) e
    ∙ between_nothing below more

pub if_ok : {A E : Type 0} {P Q : A → Type 0} (r : Result A E) → ((x : A) → P x → Q x) → IfOk r P
    → IfOk r Q
if_ok (Ok x) f h = f x h
if_ok (Err e) f h = h

pub rest_after : {R : Type 0} (below : R → R → Bool) (bs : List (Vec R Global)) (i : ℕ)
    (b d : Vec R Global) → i < length bs → ascends below (rows_in (drop i bs)) ≡ true
    → ascends below (rows_in (drop (i + 1) (set bs i b))) ≡ true
rest_after {R = R} below bs i b d lt up =
    let after : i < i + 1 = omega arith in
    ap (λ (l : List (Vec R Global)). ascends below (rows_in l)) (drop-set-lt (i + 1) bs i b after)
    ∙ rest_ascends below bs i d lt up

pub some_copied : {A : Type 0} (o : Option (Bor A)) → is_some o ≡ is_some (option_copied o)
some_copied None = refl
some_copied (Some x) = refl
