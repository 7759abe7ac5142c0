-- Sorted lists, and what is put in its place there.
use Rattle.std.proofs.Common.{◌≡◌, Bool, true, false, List, [], ◌∷◌, refl, ap, ◌∙◌}
use Rattle.std.specs.Prelude.{if◌then◌else◌, not}
use Rattle.std.specs.Ordering.{is_lt, ordering_reverse}
use Rattle.std.specs.Cmp.{IsTotalOrder}
use Rattle.std.specs.declared.cmp.Ordering.{Ordering}
use Rattle.std.specs.declared.cmp.Ordering.TheVariants.{Less, Equal, Greater}
use Rattle.std.proofs.lemmas.Cmp.{alike_right}
use Rattle.std.proofs.lemmas.Bool.{and_from, not-true}
use Rattle.desk_model.specs.Lists.{put, over, ascends}
use Rattle.desk_model.specs.Keys.{below_by}
use Rattle.desk_base.proofs.Bools.{and_left, and_right}

-- what an order of rows must satisfy
pub record IsOrder {A : Type 0} (below : A → A → Bool) : Type 0 where
  pub asym : (x y : A) → below x y ≡ true → below y x ≡ false
  pub between : (x y z : A) → below x y ≡ true → below z y ≡ false → below x z ≡ true

pub less_by : (o : Ordering) → is_lt o ≡ true → o ≡ Less
less_by Less e = refl
less_by Equal e = cc
less_by Greater e = cc

pub turned_by : (o p : Ordering) → o ≡ Less → p ≡ ordering_reverse o → is_lt p ≡ false
turned_by o p e f = ap is_lt (f ∙ ap ordering_reverse e)

pub between_by : {A : Type 0} {order : A → A → Ordering} → IsTotalOrder order
    → (x y z : A) (o : Ordering) → order z y ≡ o → is_lt o ≡ false → order x y ≡ Less
    → order x z ≡ Less
between_by t x y z Less e f l = cc
between_by t x y z Equal e f l = alike_right t z y x e ∙ l
between_by t x y z Greater e f l = t.trans x y z l (t.antisymm y z ∙ ap ordering_reverse e)

pub order_of : {A : Type 0} {order : A → A → Ordering} → IsTotalOrder order
    → IsOrder (below_by order)
order_of {A} {order} t = record {
  asym = λ x y e. turned_by (order x y) (order y x) (less_by (order x y) e) (t.antisymm y x);
  between = λ x y z e f. ap is_lt (between_by t x y z (order z y) refl f (less_by (order x y) e));
}

pub over_all : {A : Type 0} (below : A → A → Bool) → IsOrder below → (x y : A) (zs : List A)
    → below x y ≡ true → over below y zs ≡ true → over below x zs ≡ true
over_all below o x y [] e all = refl
over_all below o x y (z ∷ zs) e all =
    let here : below z y ≡ false =
    not-true (below z y) (and_left (not (below z y)) (over below y zs) all) in
    and_from (not (below z x)) (over below x zs)
    (ap not (o.asym x z (o.between x y z e here)))
    (over_all below o x y zs e (and_right (not (below z y)) (over below y zs) all))

pub over-put : {A : Type 0} (below : A → A → Bool) (x y : A) (zs : List A) → below x y ≡ false
    → over below y zs ≡ true → over below y (put below x zs) ≡ true
over-put below x y [] e all = rw e refl
over-put below x y (z ∷ zs) e all =
    elim (below x z) as (λ b. over below y (if b then x ∷ z ∷ zs else z ∷ put below x zs) ≡ true) [
      | true ↦ and_from (not (below x y)) (over below y (z ∷ zs)) (ap not e) all
      | false ↦ and_from (not (below z y)) (over below y (put below x zs))
          (and_left (not (below z y)) (over below y zs) all)
          (over-put below x y zs e (and_right (not (below z y)) (over below y zs) all))
    ]

pub put_step : {A : Type 0} (below : A → A → Bool) → IsOrder below
    → (x y : A) (ys : List A) (b : Bool) → below x y ≡ b → ascends below (y ∷ ys) ≡ true
    → ascends below (put below x ys) ≡ true
    → ascends below (if b then x ∷ y ∷ ys else y ∷ put below x ys) ≡ true
put_step below o x y ys true e up rest =
    and_from (over below x (y ∷ ys)) (ascends below (y ∷ ys))
    (and_from (not (below y x)) (over below x ys) (ap not (o.asym x y e))
    (over_all below o x y ys e (and_left (over below y ys) (ascends below ys) up)))
    up
put_step below o x y ys false e up rest =
    and_from (over below y (put below x ys)) (ascends below (put below x ys))
    (over-put below x y ys e (and_left (over below y ys) (ascends below ys) up)) rest

pub ascends-put : {A : Type 0} (below : A → A → Bool) → IsOrder below → (x : A) (ys : List A)
    → ascends below ys ≡ true → ascends below (put below x ys) ≡ true
ascends-put below o x [] up = refl
ascends-put below o x (y ∷ ys) up = put_step below o x y ys (below x y) refl up
    (ascends-put below o x ys (and_right (over below y ys) (ascends below ys) up))
