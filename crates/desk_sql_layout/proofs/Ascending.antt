-- Rows in the order of their keys stay in this order.
use Rattle.std.proofs.Common.{◌≡◌, ◌⊎◌, inl, inr, ℕ, ◌+◌, ◌≤◌, Bool, true, false, cond, List, []}
use Rattle.std.proofs.Common.{◌∷◌, ◌++◌, map, filter, length, sym, refl, subst, arith}
use Rattle.std.specs.Prelude.{nat_lt, ◌==◌, ◌&&◌, ◌||◌}
use Rattle.std.proofs.lemmas.Bool.Decides.{nat_tests}
use Rattle.std.proofs.lemmas.Cmp.{on_total, nat_list_cmp_total}
use Rattle.desk_model.specs.Lists.{put, put_all, updated, IsIn}
use Rattle.desk_model.specs.Keys.{release_below, change_below}
use Rattle.desk_model.specs.Texts.{text_below}
use Rattle.desk_history.specs.Laws.{Ascends}
use Rattle.desk_history.proofs.Members.{in_map, from_map}
use Rattle.desk_sql_layout.specs.Held.{AreNumbered}
use Rattle.desk_model.proofs.Orders.{IsOrder, order_of}
use Rattle.desk_base.proofs.Numbers.{not_less}

-- ---- orders

pub release_is_order : IsOrder release_below
release_is_order = order_of (on_total (λ row. row.name) nat_list_cmp_total)

pub text_is_order : IsOrder text_below
text_is_order = order_of nat_list_cmp_total

pub before_step : (a b c d : ℕ) → (nat_lt a c || ((a == c) && nat_lt b d)) ≡ true
    → (nat_lt c a || ((c == a) && nat_lt d b)) ≡ false
before_step a b c d e = grind (arith, nat_tests)

between_steps : (a b c d x y : ℕ) → (nat_lt a c || ((a == c) && nat_lt b d)) ≡ true
    → (nat_lt x c || ((x == c) && nat_lt y d)) ≡ false
    → (nat_lt a x || ((a == x) && nat_lt b y)) ≡ true
between_steps a b c d x y e f = grind (arith, nat_tests)

pub change_is_order : IsOrder change_below
change_is_order = record {
  asym = λ x y e. before_step x.duty x.step y.duty y.step e;
  between = λ x y z e f. between_steps x.duty x.step y.duty y.step z.duty z.step e f;
}

-- ---- rows in their places

pub from_put : {A : Type 0} (below : A → A → Bool) (z x : A) (ys : List A) → IsIn z (put below x ys)
    → (x ≡ z) ⊎ IsIn z ys
from_put below z x [] m = m
from_put {A} below z x (y ∷ ys) m = go (from_put below z x ys) (below x y) m
  where
    go : (IsIn z (put below x ys) → (x ≡ z) ⊎ IsIn z ys) → (b : Bool)
        → IsIn z (cond b (x ∷ y ∷ ys) (y ∷ put below x ys)) → (x ≡ z) ⊎ IsIn z (y ∷ ys)
    go more true m = m
    go more false (inl e) = inr (inl e)
    go more false (inr n) = elim (more n) [ inl e ↦ inl e | inr k ↦ inr (inr k) ]

pub ascends_put : {A : Type 0} (below : A → A → Bool) → IsOrder below → (x : A) (ys : List A)
    → Ascends below ys → Ascends below (put below x ys)
ascends_put below o x [] up = (λ z m. absurd m, tt)
ascends_put {A} below o x (y ∷ ys) up = go (ascends_put below o x ys up.1) (below x y) refl
  where
    go : Ascends below (put below x ys) → (b : Bool) → below x y ≡ b
        → Ascends below (cond b (x ∷ y ∷ ys) (y ∷ put below x ys))
    go more true e = (
      λ z m. elim m [
        | inl same ↦ subst (λ u. below u x ≡ false) same (o.asym x y e)
        | inr n ↦ o.asym x z (o.between x y z e (up.0 z n))
      ],
      up,
    )
    go more false e = (
      λ z m. elim (from_put below z x ys m)
          [ inl same ↦ subst (λ u. below u y ≡ false) same e | inr n ↦ up.0 z n ],
      more,
    )

pub ascends_put_all : {A : Type 0} (below : A → A → Bool) → IsOrder below → (xs ys : List A)
    → Ascends below ys → Ascends below (put_all below xs ys)
ascends_put_all below o [] ys up = up
ascends_put_all below o (x ∷ xs) ys up = ascends_put below o x (put_all below xs ys)
    (ascends_put_all below o xs ys up)

from_filter : {A : Type 0} (p : A → Bool) (z : A) (xs : List A) → IsIn z (filter p xs) → IsIn z xs
from_filter p z [] m = m
from_filter {A} p z (x ∷ xs) m = go (from_filter p z xs) (p x) m
  where
    go : (IsIn z (filter p xs) → IsIn z xs) → (b : Bool)
        → IsIn z (cond b (x ∷ filter p xs) (filter p xs)) → IsIn z (x ∷ xs)
    go more true (inl e) = inl e
    go more true (inr n) = inr (more n)
    go more false n = inr (more n)

pub ascends_filter : {A : Type 0} (below : A → A → Bool) (p : A → Bool) (xs : List A)
    → Ascends below xs → Ascends below (filter p xs)
ascends_filter below p [] up = tt
ascends_filter {A} below p (x ∷ xs) up = go (ascends_filter below p xs up.1) (p x)
  where
    go : Ascends below (filter p xs) → (b : Bool)
        → Ascends below (cond b (x ∷ filter p xs) (filter p xs))
    go more true = (λ z m. up.0 z (from_filter p z xs m), more)
    go more false = more

-- ---- rows by a key

pub by_key : {A B : Type 0} (key : A → B) (lower : B → B → Bool) (xs : List A)
    → Ascends lower (map key xs) → Ascends (λ a b. lower (key a) (key b)) xs
by_key key lower [] up = tt
by_key key lower (x ∷ xs) up = (λ z m. up.0 (key z) (in_map key z xs m), by_key key lower xs up.1)

keys : {A B : Type 0} (key : A → B) (lower : B → B → Bool) (xs : List A)
    → Ascends (λ a b. lower (key a) (key b)) xs → Ascends lower (map key xs)
keys key lower [] up = tt
keys key lower (x ∷ xs) up = (
  λ z m. let at = from_map key z xs m in
      subst (λ u. lower u (key x) ≡ false) at.2 (up.0 at.0 at.1),
  keys key lower xs up.1,
)

-- a change of rows that keeps their keys keeps their order
pub same_keys : {A B : Type 0} (key : A → B) (test : A → Bool) (change : A → A)
    → ((x : A) → key (change x) ≡ key x) → (xs : List A)
    → map key (updated test change xs) ≡ map key xs
same_keys key test change same [] = refl
same_keys {A} key test change same (x ∷ xs) = (λ i. one (test x) i
    ∷ same_keys key test change same xs i)
  where
    one : (b : Bool) → key (cond b (change x) x) ≡ key x
    one true = same x
    one false = refl

pub ascends_updated : {A B : Type 0} (key : A → B) (lower : B → B → Bool) (test : A → Bool)
    (change : A → A) → ((x : A) → key (change x) ≡ key x) → (xs : List A)
    → Ascends (λ a b. lower (key a) (key b)) xs
    → Ascends (λ a b. lower (key a) (key b)) (updated test change xs)
ascends_updated key lower test change same xs up = by_key key lower (updated test change xs)
    (subst (Ascends lower) (sym (same_keys key test change same xs)) (keys key lower xs up))

-- ---- numbers

at_least : (n m : ℕ) (ns : List ℕ) → AreNumbered n ns → IsIn m ns → n ≤ m
at_least n m [] are there = absurd there
at_least n m (k ∷ ks) are (inl e) = omega (arith, are.0, e)
at_least n m (k ∷ ks) are (inr there) = omega (arith, at_least (n + 1) m ks are.1 there)

pub numbers_ascend : (n : ℕ) (ns : List ℕ) → AreNumbered n ns → Ascends nat_lt ns
numbers_ascend n [] are = tt
numbers_ascend n (k ∷ ks) are = (
  λ m there. not_less m k (omega (arith, are.0, at_least (n + 1) m ks are.1 there)),
  numbers_ascend (n + 1) ks are.1,
)

pub numbered_on : (n : ℕ) (ns ms : List ℕ) → AreNumbered n ns → AreNumbered (n + length ns) ms
    → AreNumbered n (ns ++ ms)
numbered_on n [] ms are more = subst (λ k. AreNumbered k ms) (omega arith) more
numbered_on n (k ∷ ns) ms are more = (
  are.0,
  numbered_on (n + 1) ns ms are.1 (subst (λ k. AreNumbered k ms) (omega arith) more),
)
