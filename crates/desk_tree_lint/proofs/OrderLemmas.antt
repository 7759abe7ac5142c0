-- Texts in order, found by halving.
use Rattle.std.proofs.Common.{◌≡◌, ◌∙◌, ⊎_elim, inl, inr, ℕ, zero, suc, ◌+◌, ◌<◌, true, false}
use Rattle.std.proofs.Common.{List, [], ◌∷◌, length, get_or, map, sym, ap, refl, subst, arith}
use Rattle.std.proofs.Common.{Result, Ok, Err, Less, nat_cmp, is_eq, ◌-◌}
use Rattle.std.specs.Prelude.{◌||◌, Contains}
use Rattle.std.specs.Result.{is_ok}
use Rattle.std.specs.List.{AllByRecursion}
use Rattle.std.specs.Str.{bytes_eq}
use Rattle.std.specs.Cmp.Lexicographic.{slice_cmp}
use Rattle.std.specs.Ordering.{is_lt, ordering_reverse}
use Rattle.std.specs.List.Sorted.{IsStrictlySortedBy, IsSortedBy, IsBinarySearchResult, IsSearchInRange}
use Rattle.std.proofs.lemmas.Bool.{cases_Bool, false≢true}
use Rattle.std.proofs.lemmas.Cmp.{nat_list_cmp_total}
use Rattle.std.proofs.lemmas.List.{get_or-map, length-map}
use Rattle.std.proofs.lemmas.List.Sorted.{searchable_from_sorted}
use Rattle.std.proofs.lemmas.Map.Keys.{Less-from_sorted}
use Rattle.std.proofs.lemmas.Map.Text.{is_eq-slice_cmp}
use Rattle.std.proofs.str.Laws.{order}
use Rattle.std.proofs.Math.Bool.{or-true}
use denote.Ref.{Bor}
use Rattle.desk_base.specs.Borrowed.{texts}
use Rattle.desk_base.specs.TextSets.{is_among}

module _ {A : Type 0} (text_of : A → List ℕ) where
  -- a text that stands at a place
  pub among_at : (xs : List A) (key : List ℕ) (i : ℕ) (d : A) → i < length xs
      → bytes_eq (text_of (get_or xs i d)) key ≡ true → is_among (map text_of xs) key ≡ true
  among_at [] key i d within is = absurd (omega (arith, within))
  among_at (x ∷ xs) key zero d within is = ap (λ b. b || is_among (map text_of xs) key) is
  among_at (x ∷ xs) key (suc i) d within is = ap (λ b. bytes_eq (text_of x) key || b)
      (among_at xs key i d (omega (arith, within)) is) ∙ or-true (bytes_eq (text_of x) key)

  -- a text that stands at none
  among_nowhere : (xs : List A) (key : List ℕ)
      → ((k : ℕ) (d : A) → k < length xs
      → is_eq (slice_cmp nat_cmp (text_of (get_or xs k d)) key) ≡ false)
      → is_among (map text_of xs) key ≡ false
  among_nowhere [] key h = refl
  among_nowhere (x ∷ xs) key h =
      ap (λ b. b || is_among (map text_of xs) key)
      (sym (is_eq-slice_cmp (text_of x) key) ∙ h zero x (omega arith))
      ∙ among_nowhere xs key (λ i d within. h (suc i) d (omega (arith, within)))

  rising : (xs : List A) → IsStrictlySortedBy (slice_cmp nat_cmp) (map text_of xs)
      → IsSortedBy (λ a b. is_lt (slice_cmp nat_cmp (text_of a) (text_of b))) xs
  rising xs up k d from to =
      let all = map text_of xs in
      let here = get_or-map text_of xs k d (text_of d) (omega (arith, to)) in
      let next = get_or-map text_of xs (k + 1) d (text_of d) to in
      let less : slice_cmp nat_cmp (get_or all k (text_of d)) (get_or all (k + 1)
      (text_of d)) ≡ Less =
      Less-from_sorted (slice_cmp nat_cmp) all k (k + 1) (text_of d) up (omega arith)
      (subst (λ n. k + 1 < n) (sym (length-map xs text_of)) to) in
      ap is_lt (nat_list_cmp_total.antisymm (text_of (get_or xs (k + 1) d))
      (text_of (get_or xs k d)) ∙ ap ordering_reverse
      ((λ j. slice_cmp nat_cmp (sym here j) (sym next j)) ∙ less))

  -- what halving finds nowhere in texts in order
  pub halved_none : (xs : List A) (key : List ℕ) (i : ℕ)
      → IsStrictlySortedBy (slice_cmp nat_cmp) (map text_of xs)
      → IsBinarySearchResult (λ x. slice_cmp nat_cmp (text_of x) key) xs (Err i)
      → is_among (map text_of xs) key ≡ false
  halved_none xs key i up h =
      let parts = h (searchable_from_sorted nat_list_cmp_total text_of xs key (rising xs up)) in
      among_nowhere xs key (λ k d within. ⊎_elim
      (λ below. ap is_eq (parts.0 k d (omega arith) below))
      (λ above. ap is_eq (parts.1 k d above within))
      (order k i))

-- whether halving finds a text among others in order
pub halved : (keys : List (Bor (List ℕ))) (key : Bor (List ℕ)) (r : Result ℕ ℕ)
    → IsStrictlySortedBy (slice_cmp nat_cmp) (texts keys) → IsSearchInRange r (length keys)
    → IsBinarySearchResult (λ (k : Bor (List ℕ)). slice_cmp nat_cmp k.now key.now) keys r
    → is_ok r ≡ is_among (texts keys) key.now
halved keys key (Ok i) up within h =
    sym (among_at (λ (k : Bor (List ℕ)). k.now) keys key.now i key within
    (sym (is_eq-slice_cmp (get_or keys i key).now key.now) ∙ ap is_eq (h key)))
halved keys key (Err i) up within h = sym (halved_none (λ (k : Bor (List ℕ)). k.now) keys key.now i
    up h)

-- ---- texts sorted, each once

-- one among some is one of them
pub among_from : {A : Type 0} (text_of : A → List ℕ) (xs : List A) (key : List ℕ)
    → is_among (map text_of xs) key ≡ true
    → (x : A) × Contains xs x × (bytes_eq (text_of x) key ≡ true)
among_from text_of [] key has = absurd (false≢true has)
among_from text_of (x ∷ xs) key has =
    elim (cases_Bool (bytes_eq (text_of x) key)) [
      | inl here ↦ (x, (zero, omega arith, refl), here)
      | inr away ↦
          let more = among_from text_of xs key
          (ap (λ b. b || is_among (map text_of xs) key) (sym away) ∙ has) in
          (more.0, (suc more.1.0, omega (arith, more.1.1), more.1.2), more.2)
    ]

less_texts : {A : Type 0} (text_of : A → List ℕ) (x : A) (xs : List A)
    → AllByRecursion (λ y. slice_cmp nat_cmp (text_of x) (text_of y) ≡ Less) xs
    → AllByRecursion (λ t. slice_cmp nat_cmp (text_of x) t ≡ Less) (map text_of xs)
less_texts text_of x [] all = tt
less_texts text_of x (y ∷ ys) all = (all.0, less_texts text_of x ys all.1)

pub sorted_texts : {A : Type 0} (text_of : A → List ℕ) (xs : List A)
    → IsStrictlySortedBy (λ x y. slice_cmp nat_cmp (text_of x) (text_of y)) xs
    → IsStrictlySortedBy (slice_cmp nat_cmp) (map text_of xs)
unfolding IsStrictlySortedBy
sorted_texts text_of [] up = tt
sorted_texts text_of (x ∷ xs) up = (less_texts text_of x xs up.0, sorted_texts text_of xs up.1)

-- ---- texts each below the next

less_than_more : (x y : List ℕ) (zs : List (List ℕ)) → slice_cmp nat_cmp x y ≡ Less
    → AllByRecursion (λ z. slice_cmp nat_cmp y z ≡ Less) zs
    → AllByRecursion (λ z. slice_cmp nat_cmp x z ≡ Less) zs
less_than_more x y [] less all = tt
less_than_more x y (z ∷ zs) less all = (
  nat_list_cmp_total.trans x y z less all.0,
  less_than_more x y zs less all.1,
)

-- each of the first so many texts is below the next of them
abbrev pub Climbs : List (List ℕ) → ℕ → Type 0
Climbs xs count = (k : ℕ) → suc k < count
    → slice_cmp nat_cmp (get_or xs k []) (get_or xs (suc k) []) ≡ Less

pub climbed : (xs : List (List ℕ)) → Climbs xs (length xs)
    → IsStrictlySortedBy (slice_cmp nat_cmp) xs
unfolding IsStrictlySortedBy
climbed [] up = tt
climbed (x ∷ []) up = (tt, tt)
climbed (x ∷ y ∷ ys) up =
    let rest = climbed (y ∷ ys) (λ k within. up (suc k) (omega (arith, within))) in
    let less = up zero (omega arith) in ((less, less_than_more x y ys less rest.0), rest)

pub climbs_more : (xs : List (List ℕ)) (i : ℕ) → Climbs xs i
    → slice_cmp nat_cmp (get_or xs (i - 1) []) (get_or xs i []) ≡ Less → Climbs xs (i + 1)
climbs_more xs i up less k within =
    ⊎_elim (λ before. up k before)
    (λ last. let here : suc k ≡ i = omega (arith, within, last) in
    let below : k ≡ i - 1 = omega (arith, within, last) in
    (λ j. slice_cmp nat_cmp (get_or xs (below j) []) (get_or xs (here j) [])) ∙ less)
    (order (suc k) i)
