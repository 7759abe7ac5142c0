-- Rows put in order by distinct keys are sorted, and sorted lists with the same members are equal.
use Rattle.std.proofs.Common.{◌≡◌, ℕ, Bool, true, false, cond, List, [], ◌∷◌, map, refl, sym, ap}
use Rattle.std.proofs.Common.{◌∙◌, subst, arith, inl, inr}
use Rattle.std.specs.Prelude.{filter, if◌then◌else◌}
use Rattle.std.specs.Ordering.{is_lt, nat_cmp, ordering_reverse}
use Rattle.std.specs.Cmp.{IsTotalOrder}
use Rattle.std.specs.declared.cmp.Ordering.{Ordering}
use Rattle.std.specs.declared.cmp.Ordering.TheVariants.{Less, Equal, Greater}
use Rattle.std.proofs.lemmas.Bool.Decides.{nat_tests}
use Rattle.desk_history_laws.proofs.Members.{from_sorted, in_filter}
use Rattle.desk_model.specs.Lists.{IsIn, put, in_order}
use Rattle.desk_model.specs.Keys.{below_by}
use Rattle.desk_model.proofs.Orders.{IsOrder}
use Rattle.desk_model.proofs.Lists.{from_put}
use Rattle.desk_history.specs.Laws.{AreDistinct, Rises}
use Rattle.desk_history.proofs.Members.{in_map, from_map}

-- ---- what is in a list that was put in order

-- ---- sorted lists

module _ {A : Type 0} (below : A → A → Bool) (o : IsOrder below) where
  over_rest : (x y : A) (ys : List A) → below x y ≡ true → Rises below (y ∷ ys) → (z : A)
      → IsIn z (y ∷ ys) → below x z ≡ true
  over_rest x y ys e up z (inl same) = subst (λ u. below x u ≡ true) same e
  over_rest x y ys e up z (inr m) = o.between x y z e (o.asym y z (up.0 z m))

  put_rises : (x : A) (ys : List A) → Rises below ys
      → ((y : A) → IsIn y ys → below x y ≡ false → below y x ≡ true) → Rises below (put below x ys)
  put_rises x [] up apart = (λ z m. absurd m, tt)
  put_rises x (y ∷ ys) up apart = by_order (put_rises x ys up.1 (λ z m. apart z (inr m)))
      (below x y) refl
    where
      by_order : Rises below (put below x ys) → (b : Bool) → below x y ≡ b
          → Rises below (if b then x ∷ y ∷ ys else y ∷ put below x ys)
      by_order rest true e = (over_rest x y ys e up, up)
      by_order rest false e = (
        λ z m. elim (from_put below x z ys m) [
          | inl same ↦ subst (λ u. below y u ≡ true) same (apart y (inl refl) e)
          | inr n ↦ up.0 z n
        ],
        rest,
      )

  pub order_rises : {K : Type 0} (key : A → K)
      → ((x y : A) → below x y ≡ false → below y x ≡ false → key x ≡ key y) → (xs : List A)
      → AreDistinct (map key xs) → Rises below (in_order below xs)
  order_rises key ties [] apart = tt
  order_rises key ties (x ∷ xs) apart =
      put_rises x (in_order below xs) (order_rises key ties xs apart.1) (λ y m e.
      turned (λ f. apart.0 (subst (λ k. IsIn k (map key xs)) (sym (ties x y e f))
      (in_map key y xs (from_sorted below y xs m)))) (below y x) refl)
    where
      turned : {y : A} → (below y x ≡ false → ⊥) → (b : Bool) → below y x ≡ b → b ≡ true
      turned never true e = refl
      turned never false e = absurd (never e)

  not_itself : (x : A) → below x x ≡ true → ⊥
  not_itself x e = let other : below x x ≡ false = o.asym x x e in cc

  pub same_rising : (xs ys : List A) → Rises below xs → Rises below ys
      → ((z : A) → IsIn z xs → IsIn z ys) → ((z : A) → IsIn z ys → IsIn z xs) → xs ≡ ys
  same_rising [] [] up up' to from = refl
  same_rising [] (y ∷ ys) up up' to from = absurd (from y (inl refl))
  same_rising (x ∷ xs) [] up up' to from = absurd (to x (inl refl))
  same_rising (x ∷ xs) (y ∷ ys) up up' to from =
      let same : x ≡ y = head (to x (inl refl)) (from y (inl refl)) in
      let rest : xs ≡ ys = same_rising xs ys up.1 up'.1
      (λ z m. tail_in (to z (inr m))
      (λ e. not_itself x (up.0 x (subst (λ u. IsIn u xs) (sym e ∙ sym same) m))))
      (λ z m. tail_from (from z (inr m))
      (λ e. not_itself y (up'.0 y (subst (λ u. IsIn u ys) (sym e ∙ same) m)))) in
      ap (λ z. z ∷ xs) same ∙ ap (λ zs. y ∷ zs) rest
    where
      head : IsIn x (y ∷ ys) → IsIn y (x ∷ xs) → x ≡ y
      head (inl e) n = sym e
      head (inr m) (inl e) = e
      head (inr m) (inr n) = let less : below x y ≡ true = up.0 y n in
          let other : below y x ≡ true = up'.0 x m in
          let never : below y x ≡ false = o.asym x y less in cc

      tail_in : {z : A} → IsIn z (y ∷ ys) → (y ≡ z → ⊥) → IsIn z ys
      tail_in (inl e) never = absurd (never e)
      tail_in (inr m) never = m

      tail_from : {z : A} → IsIn z (x ∷ xs) → (x ≡ z → ⊥) → IsIn z xs
      tail_from (inl e) never = absurd (never e)
      tail_from (inr m) never = m

pub rises_distinct : {A : Type 0} (below : A → A → Bool) → ((x : A) → below x x ≡ false)
    → (xs : List A) → Rises below xs → AreDistinct xs
rises_distinct below never [] up = tt
rises_distinct below never (x ∷ xs) up = (
  λ m. (let less : below x x ≡ true = up.0 x m in let none : below x x ≡ false = never x in cc),
  rises_distinct below never xs up.1,
)

-- ---- ties

tied : {A : Type 0} {order : A → A → Ordering} → IsTotalOrder order → (x y : A) (a b : Ordering)
    → order x y ≡ a → order y x ≡ b → is_lt a ≡ false → is_lt b ≡ false → order x y ≡ Equal
tied t x y Less b e f n m = cc
tied t x y Equal b e f n m = e
tied t x y Greater b e f n m = let turned : b ≡ Less = sym f
    ∙ (t.antisymm y x ∙ ap ordering_reverse e) in let less : is_lt b ≡ true = ap is_lt turned in cc

pub ties : {A : Type 0} {order : A → A → Ordering} → IsTotalOrder order → (x y : A)
    → below_by order x y ≡ false → below_by order y x ≡ false → order x y ≡ Equal
ties {A} {order} t x y n m = tied t x y (order x y) (order y x) refl refl n m

pub numbers_tie : (x y : ℕ) → nat_cmp x y ≡ Equal → x ≡ y
numbers_tie x y e = grind (arith, nat_tests)

-- ---- lists in which nothing occurs twice

pub distinct_map : {A B : Type 0} (f : A → B) (xs : List A) → ((x y : A) → f x ≡ f y → x ≡ y)
    → AreDistinct xs → AreDistinct (map f xs)
distinct_map f [] same a = tt
distinct_map f (x ∷ xs) same a = (
  λ m. (let found = from_map f (f x) xs m in
      a.0 (subst (λ y. IsIn y xs) (same found.0 x found.2) found.1)),
  distinct_map f xs same a.1,
)

-- a list in which the items that are like any one of them are distinct
pub distinct_alike : {A : Type 0} (alike : A → A → Bool) → ((x : A) → alike x x ≡ true)
    → (xs : List A) → ((x : A) → AreDistinct (filter (alike x) xs)) → AreDistinct xs
distinct_alike alike own [] each = tt
distinct_alike alike own (x ∷ xs) each = (
  λ m. (subst AreDistinct (here (filter (alike x) xs) (alike x x) (own x)) (each x)).0
      (in_filter (alike x) x xs (own x) m),
  distinct_alike alike own xs (λ y. rest (filter (alike y) xs) (alike y x) (each y)),
)
  where
    here : (ys : List _) (b : Bool) → b ≡ true → cond b (x ∷ ys) ys ≡ x ∷ ys
    here ys true e = refl
    here ys false e = cc

    rest : (ys : List _) (b : Bool) → AreDistinct (cond b (x ∷ ys) ys) → AreDistinct ys
    rest ys true a = a.1
    rest ys false a = a
