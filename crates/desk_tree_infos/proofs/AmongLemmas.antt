-- What is among some texts, and in the set of them.
use Rattle.std.proofs.Common.{◌≡◌, ◌∙◌, inl, inr, ℕ, Bool, true, false, cond, List, [], ◌∷◌, ◌++◌}
use Rattle.std.proofs.Common.{arith, sym, ap, refl, subst, filter, Ordering, Less, Equal, Greater}
use Rattle.std.proofs.Common.{nat_cmp}
use Rattle.std.specs.Prelude.{Contains, Option, Some, None, ◌||◌, ◌&&◌}
use Rattle.std.specs.List.Sorted.{IsStrictlySortedBy}
use Rattle.std.specs.Str.{bytes_eq}
use Rattle.std.specs.Cmp.Lexicographic.{slice_cmp}
use Rattle.std.specs.BTreeSet.{insert_key}
use Rattle.std.specs.Ordering.{match_ordering, ordering_reverse}
use Rattle.std.proofs.lemmas.Bool.{cases_Bool, false≢true}
use Rattle.std.proofs.lemmas.Cmp.{nat_list_cmp_total}
use Rattle.std.proofs.lemmas.List.Elements.{recursion_from_All}
use Rattle.std.proofs.lemmas.List.Folds.{list_any-append}
use Rattle.std.proofs.lemmas.List.Kept.{IsStrictlySortedBy-filter}
use Rattle.std.proofs.lemmas.Map.Keys.{sorted_tail}
use Rattle.std.proofs.lemmas.Map.Views.{All-after_first, All-insert_key}
use Rattle.std.proofs.lemmas.Slice.Eq.{bytes_eq-Decides}
use Rattle.std.proofs.Math.Bool.{or-true}
use Rattle.desk_base.proofs.SortedOnce.{is_head, is_later, sorted_onto, head_first, same_sorted}
use Rattle.desk_base.proofs.Lists.{contains_cases}
use Rattle.desk_base.proofs.Texts.{texts_equal}
use Rattle.desk_base.specs.TextSets.{is_among}
use Rattle.desk_model.specs.Texts.{text_below, put_new, sorted_set}
use Rattle.desk_tree_annotations.specs.declared.annotation.Annotation.{Annotation}
use Rattle.desk_tree_infos.specs.declared.information.Subject.{Subject}
use Rattle.desk_tree_infos.specs.Information.{aggregated, some_or, nearest, topmost, given, given_by}
use Rattle.desk_tree_infos.specs.Sharing.{is_none}
use Rattle.desk_model.proofs.TextSets.{insert_key-is}

abbrev Texts : Type 0
Texts = List (List ℕ)

-- ---- tests

or_again : (b c : Bool) → (b || c) ≡ (b || (b || c))
or_again true c = refl
or_again false c = refl

or_moves : (a b c : Bool) → (b || (a || c)) ≡ (a || (b || c))
or_moves true true c = refl
or_moves true false c = refl
or_moves false b c = refl

-- ---- among some

pub among-append : (xs ys : Texts) (t : List ℕ)
    → is_among (xs ++ ys) t ≡ (is_among xs t || is_among ys t)
among-append xs ys t = list_any-append (λ u. bytes_eq u t) xs ys

by_place : (x y t : List ℕ) (ys rest : Texts) (below same : Bool) → bytes_eq x y ≡ same
    → is_among rest t ≡ (bytes_eq x t || is_among ys t)
    → is_among (cond below (x ∷ y ∷ ys) (cond same (y ∷ ys) (y ∷ rest))) t
    ≡ (bytes_eq x t || (bytes_eq y t || is_among ys t))
by_place x y t ys rest true same is step = refl
by_place x y t ys rest false true is step =
    or_again (bytes_eq y t) (is_among ys t)
    ∙ ap (λ z. bytes_eq z t || (bytes_eq y t || is_among ys t)) (sym (texts_equal x y is))
by_place x y t ys rest false false is step =
    ap (λ b. bytes_eq y t || b) step ∙ or_moves (bytes_eq x t) (bytes_eq y t) (is_among ys t)

among-put_new : (x : List ℕ) (ys : Texts) (t : List ℕ)
    → is_among (put_new x ys) t ≡ (bytes_eq x t || is_among ys t)
among-put_new x [] t = refl
among-put_new x (y ∷ ys) t = by_place x y t ys (put_new x ys) (text_below x y) (bytes_eq x y) refl
    (among-put_new x ys t)

pub among-set : (xs : Texts) (t : List ℕ) → is_among (sorted_set xs) t ≡ is_among xs t
among-set [] t = refl
among-set (x ∷ xs) t = among-put_new x (sorted_set xs) t
    ∙ ap (λ b. bytes_eq x t || b) (among-set xs t)

by_test : (q b a p : Bool) → (b ≡ true → q ≡ p) → cond q (b || (a && p)) (a && p) ≡ ((b || a) && p)
by_test true true a p is = is refl
by_test true false a p is = refl
by_test false true true p is = sym (is refl) ∙ is refl
by_test false true false p is = is refl
by_test false false a p is = refl

test_moves : (t x : List ℕ) (q : Bool) (xs : Texts)
    → is_among (cond q (x ∷ xs) xs) t ≡ cond q (bytes_eq x t || is_among xs t) (is_among xs t)
test_moves t x true xs = refl
test_moves t x false xs = refl

pub among-filter : (p : List ℕ → Bool) (xs : Texts) (t : List ℕ)
    → is_among (filter p xs) t ≡ (is_among xs t && p t)
among-filter p [] t = refl
among-filter p (x ∷ xs) t =
    test_moves t x (p x) (filter p xs)
    ∙ ap (λ b. cond (p x) (bytes_eq x t || b) b) (among-filter p xs t)
    ∙ by_test (p x) (bytes_eq x t) (is_among xs t) (p t) (λ same. ap p (texts_equal x t same))

-- ---- the set

among_to : (xs : Texts) (t : List ℕ) → is_among xs t ≡ true → Contains xs t
among_to [] t is = absurd (false≢true is)
among_to (x ∷ xs) t is =
    elim (cases_Bool (bytes_eq x t)) [
      | inl here ↦ subst (λ u. Contains (x ∷ xs) u) (texts_equal x t here) (is_head x xs)
      | inr away ↦ is_later x xs t (among_to xs t (ap (λ b. b || is_among xs t) (sym away) ∙ is))
    ]

among_from : (xs : Texts) (t : List ℕ) → Contains xs t → is_among xs t ≡ true
among_from [] t at = absurd (let within = at.1 in omega (arith, within))
among_from (x ∷ xs) t at =
    elim (contains_cases x xs t at) [
      | inl same ↦ ap (λ b. b || is_among xs t) ((bytes_eq-Decides x t).1 same)
      | inr later ↦ ap (λ b. bytes_eq x t || b) (among_from xs t later) ∙ or-true (bytes_eq x t)
    ]

abbrev order : List ℕ → List ℕ → Ordering
order = slice_cmp nat_cmp

by_order : (x k : List ℕ) (xs : Texts) (o : Ordering) → order k x ≡ o
    → IsStrictlySortedBy order (x ∷ xs) → IsStrictlySortedBy order (insert_key order xs k)
    → IsStrictlySortedBy order (match_ordering o (k ∷ x ∷ xs) (x ∷ xs) (x ∷ insert_key order xs k))
unfolding IsStrictlySortedBy
by_order x k xs Less is up rest =
    sorted_onto order k (x ∷ xs) up (λ y at. elim (contains_cases x xs y at) [
      | inl same ↦ subst (λ z. order k z ≡ Less) same is
      | inr later ↦ nat_list_cmp_total.trans k x y is
          (head_first order nat_list_cmp_total x y xs up later)
    ])
by_order x k xs Equal is up rest = up
by_order x k xs Greater is up rest = (
  recursion_from_All (λ y. order x y ≡ Less) (insert_key order xs k)
      (All-insert_key order k (λ y. order x y ≡ Less) xs (All-after_first order x xs up)
      (nat_list_cmp_total.antisymm x k ∙ ap ordering_reverse is)),
  rest,
)

put_sorted : (ks : Texts) (k : List ℕ) → IsStrictlySortedBy order ks
    → IsStrictlySortedBy order (insert_key order ks k)
unfolding IsStrictlySortedBy
put_sorted [] k up = (tt, tt)
put_sorted (x ∷ xs) k up = by_order x k xs (order k x) refl up
    (put_sorted xs k (sorted_tail order x xs up))

pub set_sorted : (xs : Texts) → IsStrictlySortedBy order (sorted_set xs)
unfolding IsStrictlySortedBy
set_sorted [] = tt
set_sorted (x ∷ xs) = subst (IsStrictlySortedBy order) (insert_key-is (sorted_set xs) x)
    (put_sorted (sorted_set xs) x (set_sorted xs))

-- two sorted lists with the same texts are equal
pub sorted_once : (xs ys : Texts) → IsStrictlySortedBy order xs → IsStrictlySortedBy order ys
    → ((t : List ℕ) → is_among xs t ≡ is_among ys t) → xs ≡ ys
sorted_once xs ys up up' same =
    same_sorted order nat_list_cmp_total xs ys up up' (λ t. (
      (λ at. among_to ys t (sym (same t) ∙ among_from xs t at)),
      (λ at. among_to xs t (same t ∙ among_from ys t at)),
    ))

pub set_once : (xs ys : Texts) → ((t : List ℕ) → is_among xs t ≡ is_among ys t)
    → sorted_set xs ≡ sorted_set ys
set_once xs ys same = sorted_once (sorted_set xs) (sorted_set ys) (set_sorted xs) (set_sorted ys)
    (λ t. among-set xs t ∙ same t ∙ sym (among-set ys t))

-- the set has these texts and no others
pub to_set : (xs : Texts) (t : List ℕ) → Contains xs t → Contains (sorted_set xs) t
to_set xs t at = among_to (sorted_set xs) t (among-set xs t ∙ among_from xs t at)

pub from_set : (xs : Texts) (t : List ℕ) → Contains (sorted_set xs) t → Contains xs t
from_set xs t at = among_to xs t (sym (among-set xs t) ∙ among_from (sorted_set xs) t at)

-- a sorted list with the same texts is the set
pub set_by_members : (xs ys : Texts) → IsStrictlySortedBy order ys
    → ((t : List ℕ) → Contains ys t → Contains xs t)
    → ((t : List ℕ) → Contains xs t → Contains ys t) → ys ≡ sorted_set xs
set_by_members xs ys up own all =
    same_sorted order nat_list_cmp_total ys (sorted_set xs) up (set_sorted xs) (λ t. (
      (λ at. to_set xs t (own t at)),
      (λ at. all t (from_set xs t at)),
    ))

pub set_filtered : (p : List ℕ → Bool) (xs ys : Texts)
    → ((t : List ℕ) → is_among ys t ≡ (is_among xs t && p t))
    → sorted_set ys ≡ filter p (sorted_set xs)
set_filtered p xs ys same =
    sorted_once (sorted_set ys) (filter p (sorted_set xs)) (set_sorted ys)
    (IsStrictlySortedBy-filter order p (sorted_set xs) (set_sorted xs))
    (λ t. among-set ys t ∙ same t ∙ ap (λ b. b && p t) (sym (among-set xs t))
    ∙ sym (among-filter p (sorted_set xs) t))

-- a set has none if there are none
put_some : (x : List ℕ) (ys : Texts) → is_none (put_new x ys) ≡ false
put_some x [] = refl
put_some x (y ∷ ys) = by_tests (text_below x y) (bytes_eq x y)
  where
    by_tests : (below same : Bool)
        → is_none (cond below (x ∷ y ∷ ys) (cond same (y ∷ ys) (y ∷ put_new x ys))) ≡ false
    by_tests true same = refl
    by_tests false true = refl
    by_tests false false = refl

pub none-set : (xs : Texts) → is_none (sorted_set xs) ≡ is_none xs
none-set [] = refl
none-set (x ∷ xs) = put_some x (sorted_set xs)

-- ---- a file's own texts may be kept as a set

some_or_some : (a b : Texts) → is_none a ≡ false → some_or a b ≡ a
some_or_some [] b is = absurd (false≢true (sym is))
some_or_some (x ∷ xs) b is = refl

own_set : (own near : Texts) (t : List ℕ)
    → is_among (some_or (sorted_set own) near) t ≡ is_among (some_or own near) t
own_set [] near t = refl
own_set (x ∷ xs) near t =
    ap (λ l. is_among l t) (some_or_some (sorted_set (x ∷ xs)) near (put_some x (sorted_set xs)))
    ∙ among-set (x ∷ xs) t

pub given_set : (of : Subject) (own : Texts) (found : List Annotation)
    → sorted_set (given of (sorted_set own) found) ≡ sorted_set (given of own found)
given_set of own found = by_top (topmost found)
  where
    by_top : (top : Option (List Annotation × Annotation))
        → sorted_set (given_by of (sorted_set own) found top)
        ≡ sorted_set (given_by of own found top)
    by_top (Some top) = refl
    by_top None =
        set_once (aggregated of found ++ some_or (sorted_set own) (nearest of found))
        (aggregated of found ++ some_or own (nearest of found))
        (λ t.
        among-append (aggregated of found) (some_or (sorted_set own) (nearest of found)) t
        ∙ ap (λ b. is_among (aggregated of found) t || b) (own_set own (nearest of found) t)
        ∙ sym (among-append (aggregated of found) (some_or own (nearest of found)) t))
