-- What is in a list of rows, what passes a test in it, and what is found first.
use Rattle.std.proofs.Common.{◌≡◌, ◌∙◌, ℕ, zero, suc, ◌+◌, ◌<◌, length, drop, get_or, add-one}
use Rattle.std.proofs.Common.{Bool, true, false, cond, List, [], ◌∷◌, Some, None, refl}
use Rattle.std.proofs.Common.{sym, ap, subst, arith, inl, inr}
use Rattle.std.proofs.lemmas.Bool.{not-true, false_from_ne_true}
use Rattle.std.specs.Prelude.{if◌then◌else◌, find, filter, not, ◌⊎◌}
use Rattle.std.specs.List.{list_any}
use Rattle.desk_model.specs.Lists.{IsIn, put, put_all, ascends, over}
use Rattle.desk_history.proofs.Distinct.{from_put}
use Rattle.desk_base.proofs.Bools.{and_left, and_right, contrary}
use Rattle.desk_model.proofs.Orders.{IsOrder}
use Rattle.desk_model.proofs.Lists.{one_passes, each_passes}

pub in_filtered : {A : Type 0} (test : A → Bool) (x : A) (xs : List A) → IsIn x xs → test x ≡ true
    → IsIn x (filter test xs)
in_filtered test x [] is passes = absurd is
in_filtered test x (y ∷ ys) is passes = either (λ later. in_filtered test x ys later passes)
    (test y) refl is
  where
    either : (IsIn x ys → IsIn x (filter test ys)) → (b : Bool) → test y ≡ b → IsIn x (y ∷ ys)
        → IsIn x (cond b (y ∷ filter test ys) (filter test ys))
    either rest true e (inl same) = inl same
    either rest true e (inr later) = inr (rest later)
    either rest false e (inl same) = absurd (contrary (test x) passes
        (subst (λ z. test z ≡ false) same e))
    either rest false e (inr later) = rest later

pub any_none : {A : Type 0} (test : A → Bool) (xs : List A)
    → ((x : A) → IsIn x xs → test x ≡ true → ⊥) → list_any test xs ≡ false
any_none test xs never = false_from_ne_true (list_any test xs)
    (λ some. let found = one_passes test xs some in never found.0 found.1 found.2)

pub any_same : {A B : Type 0} (p : A → Bool) (q : B → Bool) (xs : List A) (ys : List B)
    → (list_any p xs ≡ true → list_any q ys ≡ true) → (list_any q ys ≡ true → list_any p xs ≡ true)
    → list_any p xs ≡ list_any q ys
any_same p q xs ys there back = either (list_any p xs) (list_any q ys) refl refl
  where
    either : (a b : Bool) → list_any p xs ≡ a → list_any q ys ≡ b → list_any p xs ≡ list_any q ys
    either true b e f = e ∙ sym (there e)
    either false true e f = absurd (contrary (list_any p xs) (back f) e)
    either false false e f = e ∙ sym f

pub in_front : {A : Type 0} (below : A → A → Bool) (x : A) (ys : List A) → IsIn x (put below x ys)
in_front below x [] = inl refl
in_front below x (y ∷ ys) = elim (below x y) as
    (λ b. IsIn x (if b then x ∷ y ∷ ys else y ∷ put below x ys))
    [ true ↦ inl refl | false ↦ inr (in_front below x ys) ]

pub in_further : {A : Type 0} (below : A → A → Bool) (x z : A) (ys : List A) → IsIn z ys
    → IsIn z (put below x ys)
in_further below x z [] is = absurd is
in_further below x z (y ∷ ys) is = either (in_further below x z ys) (below x y) is
  where
    either : (IsIn z ys → IsIn z (put below x ys)) → (b : Bool) → IsIn z (y ∷ ys)
        → IsIn z (if b then x ∷ y ∷ ys else y ∷ put below x ys)
    either rest true there = inr there
    either rest false (inl same) = inl same
    either rest false (inr later) = inr (rest later)

-- rows put in their places are those and the others
pub in_put_all : {A : Type 0} (below : A → A → Bool) (z : A) (xs ys : List A)
    → IsIn z (put_all below xs ys) → IsIn z xs ⊎ IsIn z ys
in_put_all below z [] ys is = inr is
in_put_all below z (x ∷ xs) ys is = either (in_put_all below z xs ys)
    (from_put below z x (put_all below xs ys) is)
  where
    further : IsIn z xs ⊎ IsIn z ys → IsIn z (x ∷ xs) ⊎ IsIn z ys
    further (inl one) = inl (inr one)
    further (inr other) = inr other

    either : (IsIn z (put_all below xs ys) → IsIn z xs ⊎ IsIn z ys)
        → (x ≡ z) ⊎ IsIn z (put_all below xs ys) → IsIn z (x ∷ xs) ⊎ IsIn z ys
    either rest (inl same) = inl (inl same)
    either rest (inr later) = further (rest later)

pub ones_put : {A : Type 0} (below : A → A → Bool) (z : A) (xs ys : List A) → IsIn z xs
    → IsIn z (put_all below xs ys)
ones_put below z [] ys is = absurd is
ones_put below z (x ∷ xs) ys (inl same) = subst (λ w. IsIn w (put_all below (x ∷ xs) ys)) same
    (in_front below x (put_all below xs ys))
ones_put below z (x ∷ xs) ys (inr later) = in_further below x z (put_all below xs ys)
    (ones_put below z xs ys later)

pub others_put : {A : Type 0} (below : A → A → Bool) (z : A) (xs ys : List A) → IsIn z ys
    → IsIn z (put_all below xs ys)
others_put below z [] ys is = is
others_put below z (x ∷ xs) ys is = in_further below x z (put_all below xs ys)
    (others_put below z xs ys is)

-- What is found first

pub none_in : {A : Type 0} (test : A → Bool) (xs : List A) → find test xs ≡ None → (x : A)
    → IsIn x xs → test x ≡ true → ⊥
none_in test [] e x is passes = absurd is
none_in test (y ∷ ys) e x is passes = either (λ none later. none_in test ys none x later passes)
    (test y) refl e is
  where
    either : (find test ys ≡ None → IsIn x ys → ⊥) → (b : Bool) → test y ≡ b
        → cond b (Some y) (find test ys) ≡ None → IsIn x (y ∷ ys) → ⊥
    either rest true f g there = cc
    either rest false f g (inl same) = contrary (test x) passes (subst (λ z. test z ≡ false) same f)
    either rest false f g (inr later) = rest g later

pub over_in : {A : Type 0} (below : A → A → Bool) (y : A) (zs : List A) → over below y zs ≡ true
    → (x : A) → IsIn x zs → below x y ≡ false
over_in below y zs all x is = not-true (below x y) (each_passes (λ z. not (below z y)) x zs all is)

pub irreflexive : {A : Type 0} (below : A → A → Bool) → IsOrder below → (x : A) → below x x ≡ false
irreflexive below o x = false_from_ne_true (below x x) (λ e. contrary (below x x) e (o.asym x x e))

-- no row that passes is below the first that does
pub first_least : {A : Type 0} (below : A → A → Bool) → IsOrder below → (test : A → Bool)
    (xs : List A) → ascends below xs ≡ true → (h : A) → find test xs ≡ Some h → (x : A) → IsIn x xs
    → test x ≡ true → below x h ≡ false
first_least below o test [] up h e x is passes = absurd is
first_least below o test (y ∷ ys) up h e x is passes =
    either (λ found later. first_least below o test ys
    (and_right (over below y ys) (ascends below ys) up) h found x later passes) (test y) refl e is
  where
    either : (find test ys ≡ Some h → IsIn x ys → below x h ≡ false) → (b : Bool) → test y ≡ b
        → cond b (Some y) (find test ys) ≡ Some h → IsIn x (y ∷ ys) → below x h ≡ false
    either rest true f g (inl same) =
        let first : y ≡ h = cc in
        subst (λ z. below z h ≡ false) (sym first ∙ same) (irreflexive below o h)
    either rest true f g (inr later) =
        let first : y ≡ h = cc in
        subst (λ z. below x z ≡ false) first
        (over_in below y ys (and_left (over below y ys) (ascends below ys) up) x later)
    either rest false f g (inl same) = absurd (contrary (test x) passes
        (subst (λ z. test z ≡ false) same f))
    either rest false f g (inr later) = rest g later

-- What a filter keeps

pub none_filtered : {A : Type 0} (test : A → Bool) (xs : List A) → ((x : A) → test x ≡ false)
    → filter test xs ≡ []
none_filtered test [] fails = refl
none_filtered test (x ∷ xs) fails = rw (fails x) (none_filtered test xs fails)

pub filter_alike : {A : Type 0} (p q : A → Bool) (xs : List A) → ((x : A) → IsIn x xs → p x ≡ q x)
    → filter p xs ≡ filter q xs
filter_alike p q [] same = refl
filter_alike p q (x ∷ xs) same =
    ap (λ b. cond b (x ∷ filter p xs) (filter p xs)) (same x (inl refl))
    ∙ ap (λ l. cond (q x) (x ∷ l) l) (filter_alike p q xs (λ y is. same y (inr is)))

-- a row and those after it
pub drop_next : {A : Type 0} (xs : List A) (i : ℕ) (d : A) → i < length xs
    → get_or xs i d ∷ drop (suc i) xs ≡ drop i xs
drop_next [] i d lt = absurd (omega (arith, lt))
drop_next (x ∷ xs) zero d lt = refl
drop_next (x ∷ xs) (suc i) d lt = drop_next xs i d (omega (arith, lt))

pub row_at : {A : Type 0} (rows : List A) (i : ℕ) (row : A) → i < length rows
    → row ≡ get_or rows i row → row ∷ drop (i + 1) rows ≡ drop i rows
row_at rows i row lt e =
    ap (λ x. x ∷ drop (i + 1) rows) e
    ∙ (ap (λ k. get_or rows i row ∷ drop k rows) (add-one i) ∙ drop_next rows i row lt)
