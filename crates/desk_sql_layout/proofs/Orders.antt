-- A list in strict order is the only list of its elements in order.
use Rattle.std.proofs.Common.{◌≡◌, inl, inr, ℕ, zero, suc, ◌<◌, Bool, true, false, not, List, []}
use Rattle.std.proofs.Common.{◌∷◌, filter, length, get_or, refl, sym, ap, ap₂, subst, arith}
use Rattle.std.specs.List.Sorted.{IsPermutation, IsSorted}
use Rattle.std.specs.Cmp.{IsTotalOrder}
use Rattle.std.specs.declared.cmp.Ordering.{Ordering}
use Rattle.std.specs.declared.cmp.Ordering.TheVariants.{Less, Equal, Greater}
use Rattle.std.specs.Ordering.{is_eq, is_lt}
use Rattle.std.proofs.lemmas.Cmp.{tied_itself}
use Rattle.std.proofs.lemmas.List.Elements.{recursion_from_All}
use Rattle.std.proofs.lemmas.List.Sorted.{IsPermutation-sym, length_permutation, sorted_far, ranks_by}
use Rattle.sqlite_trees.specs.Tree.{IsAscending}
use Rattle.sqlite_trees.proofs.ListLemmas.{filter_all, all_weaker, IsPermutation-filter}
use Rattle.sqlite_rules.specs.Lists.{Has}
use Rattle.sqlite_rules.proofs.ListLemmas.{all_has}
use Rattle.desk_sql_layout.proofs.Edits.{has_permuted}

ascending_from : {X : Type 0} (R : X → X → Type 0) (xs : List X)
    → ((i j : ℕ) (d : X) → i < j → j < length xs → R (get_or xs i d) (get_or xs j d))
    → IsAscending R xs
ascending_from R [] h = tt
ascending_from R (x ∷ xs) h = (
  recursion_from_All (R x) xs (λ i d low. h zero (suc i) d (omega arith) (omega arith)),
  ascending_from R xs (λ i j d a b. h (suc i) (suc j) d (omega arith) (omega arith)),
)

fewer : {X : Type 0} (p : X → Bool) (xs : List X) → (length (filter p xs) < suc (length xs))
fewer p [] = omega arith
fewer {X} p (x ∷ xs) = go (fewer p xs) (p x) refl
  where
    go : length (filter p xs) < suc (length xs) → (b : Bool) → p x ≡ b
        → length (filter p (x ∷ xs)) < suc (length (x ∷ xs))
    go more true is = rw is (omega (arith, more))
    go more false is = rw is (omega (arith, more))

whole : {X : Type 0} (p : X → Bool) (xs : List X) → length (filter p xs) ≡ length xs
    → filter p xs ≡ xs
whole p [] h = refl
whole {X} p (x ∷ xs) h = go (whole p xs) (p x) refl
  where
    go : (length (filter p xs) ≡ length xs → filter p xs ≡ xs) → (b : Bool) → p x ≡ b
        → filter p (x ∷ xs) ≡ x ∷ xs
    go more true is = let less : length (filter p xs) ≡ length xs =
        (let it = rw is at h in omega (arith, it)) in rw is (ap (λ l. x ∷ l) (more less))
    go more false is = absurd (let it = rw is at h in omega (arith, it, fewer p xs))

not_equal : (o : Ordering) → o ≡ Less → not (is_eq o) ≡ true
not_equal Less h = refl
not_equal Equal h = absurd (cc)
not_equal Greater h = refl

is_lower : (o : Ordering) → o ≡ Less → is_lt o ≡ true
is_lower o h = ap is_lt h

module _ {X : Type 0} (cmp : X → X → Ordering) (total : IsTotalOrder cmp) where
  pub same_order : (xs ys : List X) → IsPermutation xs ys → IsAscending (λ a b. cmp a b ≡ Less) xs
      → IsAscending (λ a b. is_lt (cmp b a) ≡ false) ys → xs ≡ ys
  same_order [] [] same up sorted = refl
  same_order [] (y ∷ ys) same up sorted = absurd (let n = length_permutation [] (y ∷ ys) same in
      omega (arith, n))
  same_order (x ∷ xs) [] same up sorted = absurd (let n = length_permutation (x ∷ xs) [] same in
      omega (arith, n))
  same_order (x ∷ xs) (y ∷ ys) same up sorted =
      let there : Has (x ∷ xs) y = has_permuted (x ∷ xs) (y ∷ ys) y same (inl refl) in
      let back : Has (y ∷ ys) x = has_permuted (y ∷ ys) (x ∷ xs) x (IsPermutation-sym _ _ same)
      (inl refl) in
      let head : y ≡ x = first there back in
      let p = λ (z : X). not (is_eq (cmp x z)) in
      let out : p x ≡ false = ap (λ o. not (is_eq o)) (tied_itself total x) in
      let kept : filter p xs ≡ xs =
      filter_all p xs (all_weaker (λ b. cmp x b ≡ Less) (λ b. p b ≡ true) (λ b low. not_equal _ low)
      xs up.0) in
      let cut = IsPermutation-filter p (x ∷ xs) (y ∷ ys) same in
      let cut2 : IsPermutation xs (filter p ys) = rw (head, out, kept) at cut in
      let n : length (filter p ys) ≡ length ys =
      (let a = length_permutation xs (filter p ys) cut2 in
      let b = length_permutation (x ∷ xs) (y ∷ ys) same in omega (arith, a, b)) in
      let rest : IsPermutation xs ys = subst (IsPermutation xs) (whole p ys n) cut2 in
      ap₂ (λ a l. a ∷ l) (sym head) (same_order xs ys rest up.1 sorted.1)
    where
      first : Has (x ∷ xs) y → Has (y ∷ ys) x → y ≡ x
      first (inl e) back = e
      first (inr later) (inl e) = sym e
      first (inr later) (inr l) =
          let low = all_has (λ b. cmp x b ≡ Less) xs y up.0 later in
          let high = all_has (λ b. is_lt (cmp b y) ≡ false) ys x sorted.0 l in
          absurd (let yes = is_lower (cmp x y) low in cc)

  pub from_sorted : (ys : List X) → IsSorted cmp ys
      → IsAscending (λ a b. is_lt (cmp b a) ≡ false) ys
  from_sorted ys sorted = ascending_from (λ a b. is_lt (cmp b a) ≡ false) ys
      (λ i j d low in_range. sorted_far (λ a b. is_lt (cmp a b)) (ranks_by total (λ x. x)) ys sorted
      i j d (omega (arith, low)) in_range)
