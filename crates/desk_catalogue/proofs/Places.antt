-- The places of faults, and the least of them.
use Rattle.std.proofs.Common.{◌≡◌, ◌∙◌, ℕ, ◌+◌, ◌<◌, ◌≤◌, Bool, true, false, cond, List, [], ◌∷◌, ◌++◌}
use Rattle.std.proofs.Common.{Option, Some, None, refl, ap, arith}
use Rattle.std.specs.Prelude.{All, ◌||◌, ◌==◌, nat_lt}
use Rattle.std.specs.Ordering.{is_lt, ordering_then}
use Rattle.std.specs.declared.cmp.Ordering.TheVariants.{Equal, Greater}
use Rattle.std.specs.Option.{option_to_list}
use Rattle.std.proofs.lemmas.Bool.Decides.{nat_tests}
use Rattle.std.proofs.lemmas.List.Elements.{All-nil, All-cons, All-append}
use Rattle.std.proofs.lemmas.List.Folds.{list_any-append}
use Rattle.toml.specs.Data.{Data, Items, no_items, item}
use Rattle.desk_base.proofs.Numbers.{not_less, unequal}
use Rattle.desk_base.proofs.Texts.{same_text}
use Rattle.desk_base.specs.TextSets.{is_among}
use Rattle.desk_model.specs.Texts.{text_below}
use Rattle.desk_model.specs.declared.refusal.CataloguePart.{CataloguePart}
use Rattle.desk_catalogue.specs.AllFaults.{IsLeastOf, all_in, at, place, repeated}

-- ---- one place below another

pub below_later : (c i j m n : ℕ) → i < j
    → text_below (c ∷ j ∷ m ∷ []) (c ∷ i ∷ n ∷ []) ≡ false
below_later c i j m n lt =
    let a : nat_lt c c ≡ false = not_less c c (omega arith) in
    let b : (c == c) ≡ true = grind (arith, nat_tests) in
    let d : nat_lt j i ≡ false = not_less j i (omega arith) in
    let e : (j == i) ≡ false = unequal j i (λ same. omega (arith, same, lt)) in
    rw (a, b, d, e) refl

pub below_same : (c i m n : ℕ) → n ≤ m → text_below (c ∷ i ∷ m ∷ []) (c ∷ i ∷ n ∷ []) ≡ false
below_same c i m n le =
    let a : nat_lt c c ≡ false = not_less c c (omega arith) in
    let b : (c == c) ≡ true = grind (arith, nat_tests) in
    let d : nat_lt i i ≡ false = not_less i i (omega arith) in
    let e : (i == i) ≡ true = grind (arith, nat_tests) in
    let f : nat_lt m n ≡ false = not_less m n le in
    rw (a, b, d, e, f) (last (m == n))
  where
    last : (b : Bool) → is_lt (ordering_then (cond b Equal Greater) Equal) ≡ false
    last true = refl
    last false = refl

-- ---- the least

abbrev pub IsNotBelow : List ℕ → List ℕ → Type 0
IsNotBelow first other = text_below other first ≡ false

pub at_front : (first : List ℕ) (rest : List (List ℕ)) → All (IsNotBelow first) rest
    → IsNotBelow first first → IsLeastOf (first ∷ rest) first
at_front first rest all itself = record {
  among = ap (λ b. b || is_among rest first) (same_text first);
  least = All-cons (IsNotBelow first) first rest itself all;
}

among_left : (a b : Bool) → a ≡ true → (a || b) ≡ true
among_left true b e = refl
among_left false b e = absurd cc

among_right : (a b : Bool) → b ≡ true → (a || b) ≡ true
among_right true b e = refl
among_right false b e = e

pub left_least : (xs ys : List (List ℕ)) (first : List ℕ) → IsLeastOf xs first
    → All (IsNotBelow first) ys → IsLeastOf (xs ++ ys) first
left_least xs ys first is all = record {
  among = list_any-append _ xs ys
      ∙ among_left (is_among xs first) (is_among ys first) is.among;
  least = All-append (IsNotBelow first) xs ys is.least all;
}

pub right_least : (xs ys : List (List ℕ)) (first : List ℕ) → IsLeastOf ys first
    → All (IsNotBelow first) xs → IsLeastOf (xs ++ ys) first
right_least xs ys first is all = record {
  among = list_any-append _ xs ys
      ∙ among_right (is_among xs first) (is_among ys first) is.among;
  least = All-append (IsNotBelow first) xs ys all is.least;
}

-- ---- the places of a part

pub all_at : (P : List ℕ → Type 0) (p : CataloguePart) (i : ℕ) (o : Option ℕ)
    → ((n : ℕ) → P (place p i n)) → All P (at p i o)
all_at P p i None is = All-nil P
all_at P p i (Some n) is = All-cons P (place p i n) [] (is n) (All-nil P)

module _ {K : Type 0} (p : CataloguePart) (own : Data → Option ℕ) (named : Data → Option K)
    (has : List K → K → Bool) where
  pub all_places : (P : List ℕ → Type 0) (before : List K) (i : ℕ) (ds : Items)
      → ((j n : ℕ) → i ≤ j → P (place p j n)) → All P (all_in p own named has before i ds)
  all_places P before i no_items is = All-nil P
  all_places P before i (item d ds) is =
      let more = all_places P (before ++ option_to_list (named d)) (i + 1) ds
      (λ j n le. is j n (omega (arith, le))) in
      All-append P (at p i (own d)) _ (all_at P p i (own d) (λ n. is i n (omega arith)))
      (All-append P (at p i (repeated has before (named d))) _
      (all_at P p i (repeated has before (named d)) (λ n. is i n (omega arith))) more)
