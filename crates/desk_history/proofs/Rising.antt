-- Sorted rows: each precedes all that come after it.
use Rattle.std.proofs.Common.{◌≡◌, ◌≢◌, ℕ, ◌+◌, ◌<◌, ◌≤◌, Bool, true, false, cond, List, [], ◌∷◌}
use Rattle.std.proofs.Common.{◌++◌, length, map, sym, refl, ap, subst, arith, inl, inr}
use Rattle.std.specs.Prelude.{filter, nat_lt}
use Rattle.std.specs.List.{enumerate_from, flat_map}
use Rattle.std.specs.Ordering.{is_lt, nat_cmp, ordering_then}
use Rattle.std.specs.declared.cmp.Ordering.{Ordering}
use Rattle.std.specs.declared.cmp.Ordering.TheVariants.{Less, Equal}
use Rattle.std.proofs.lemmas.Bool.Decides.{nat_tests}
use Rattle.desk_model.specs.Lists.{IsIn}
use Rattle.desk_history.specs.Laws.{Ascends, AreDistinct, Rises}
use Rattle.desk_history.proofs.Members.{in_cases, in_map, from_map, from_flat_map}
use Rattle.desk_history.proofs.Distinct.{from_filter}
use Rattle.desk_model.proofs.Orders.{IsOrder}

-- ---- orders

pub smaller : (a b : ℕ) → a < b → nat_cmp a b ≡ Less
smaller a b lt = let e : nat_lt a b ≡ true = grind (arith, nat_tests) in rw e refl

-- an order by the first part of a key, or else by the rest
pub first_less : (o p : Ordering) → o ≡ Less → is_lt (ordering_then o p) ≡ true
first_less o p e = rw e refl

pub rest_less : (o p : Ordering) → o ≡ Equal → is_lt p ≡ true → is_lt (ordering_then o p) ≡ true
rest_less o p e f = rw e f

-- ---- lists

pub rises-append : {A : Type 0} (below : A → A → Bool) (xs ys : List A) → Rises below xs
    → Rises below ys → ((x y : A) → IsIn x xs → IsIn y ys → below x y ≡ true)
    → Rises below (xs ++ ys)
rises-append below [] ys up more after = more
rises-append below (x ∷ xs) ys up more after = (
  λ z m. elim (in_cases z xs ys m) [ inl old ↦ up.0 z old | inr new ↦ after x z (inl refl) new ],
  rises-append below xs ys up.1 more (λ u y n m. after u y (inr n) m),
)

pub rises-map : {A B : Type 0} (f : A → B) (below : A → A → Bool) (under : B → B → Bool)
    → ((a b : A) → below a b ≡ true → under (f a) (f b) ≡ true) → (xs : List A) → Rises below xs
    → Rises under (map f xs)
rises-map f below under same [] up = tt
rises-map f below under same (x ∷ xs) up = (
  λ z m. let at = from_map f z xs m in
      subst (λ u. under (f x) u ≡ true) at.2 (same x at.0 (up.0 at.0 at.1)),
  rises-map f below under same xs up.1,
)

pub rises-filter : {A : Type 0} (below : A → A → Bool) (test : A → Bool) (xs : List A)
    → Rises below xs → Rises below (filter test xs)
rises-filter below test [] up = tt
rises-filter below test (x ∷ xs) up =
    elim (test x) as (λ b. Rises below (cond b (x ∷ filter test xs) (filter test xs))) [
      | true ↦ (λ y m. up.0 y (from_filter test y xs m).0, rises-filter below test xs up.1)
      | false ↦ rises-filter below test xs up.1
    ]

-- sorted by one order, and so by another that contains it
pub rises-by : {A : Type 0} (below under : A → A → Bool) (xs : List A)
    → ((x y : A) → IsIn x xs → IsIn y xs → below x y ≡ true → under x y ≡ true) → Rises below xs
    → Rises under xs
rises-by below under [] same up = tt
rises-by below under (x ∷ xs) same up = (
  λ y m. same x y (inl refl) (inr m) (up.0 y m),
  rises-by below under xs (λ y z m n. same y z (inr m) (inr n)) up.1,
)

-- lists of what is in order, each of which is sorted
pub rises-flat_map : {A B : Type 0} (f : A → List B) (below : A → A → Bool) (under : B → B → Bool)
    (xs : List A) → Rises below xs → ((x : A) → IsIn x xs → Rises under (f x))
    → ((x y : A) (u v : B) → below x y ≡ true → IsIn u (f x) → IsIn v (f y) → under u v ≡ true)
    → Rises under (flat_map f xs)
rises-flat_map f below under [] up each apart = tt
rises-flat_map f below under (x ∷ xs) up each apart =
    rises-append under (f x) (flat_map f xs) (each x (inl refl))
    (rises-flat_map f below under xs up.1 (λ y m. each y (inr m)) apart)
    (λ u v m n. let at = from_flat_map f v xs n in apart x at.0 u v (up.0 at.0 at.1) m at.2)

-- rows in order, no two of which have the same key
pub rises-apart : {A K : Type 0} (below under : A → A → Bool) (key : A → K) (xs : List A)
    → Ascends below xs → AreDistinct (map key xs)
    → ((x y : A) → IsIn x xs → IsIn y xs → below y x ≡ false → key x ≢ key y → under x y ≡ true)
    → Rises under xs
rises-apart below under key [] up a each = tt
rises-apart below under key (x ∷ xs) up a each = (
  λ y m. each x y (inl refl) (inr m) (up.0 y m)
      (λ e. a.0 (subst (λ k. IsIn k (map key xs)) (sym e) (in_map key y xs m))),
  rises-apart below under key xs up.1 a.1 (λ y z m n. each y z (inr m) (inr n)),
)

-- ---- numbers

pub in_numbered : {A : Type 0} (n : ℕ) (xs : List A) (d : ℕ × A) → IsIn d (enumerate_from n xs)
    → (n ≤ d.0) × IsIn d.1 xs
in_numbered n [] d m = absurd m
in_numbered {A} n (x ∷ xs) d m =
    elim m [
      | inl e ↦ (omega (arith, ap (λ (p : ℕ × A). p.0) e), inl (ap (λ (p : ℕ × A). p.1) e))
      | inr later ↦ (let at = in_numbered (n + 1) xs d later in (omega (arith, at.0), inr at.1))
    ]

-- of two that are sorted, the one with the smaller number comes first
pub smaller_first : {A : Type 0} (below : A → A → Bool) (n : ℕ) (xs : List A) (a b : ℕ × A)
    → Rises below xs → IsIn a (enumerate_from n xs) → IsIn b (enumerate_from n xs) → a.0 < b.0
    → below a.1 b.1 ≡ true
smaller_first below n [] a b up k l lt = absurd k
smaller_first {A} below n (x ∷ xs) a b up k l lt =
    elim l [
      | inl e ↦ absurd (let least = in_numbered n (x ∷ xs) a k in
          let here : n ≡ b.0 = ap (λ (p : ℕ × A). p.0) e in omega (arith, least.0, here, lt))
      | inr m ↦ (elim k [
        | inl e ↦ subst (λ (u : A). below u b.1 ≡ true) (ap (λ (p : ℕ × A). p.1) e)
            (up.0 b.1 (in_numbered (n + 1) xs b m).1)
        | inr j ↦ smaller_first below (n + 1) xs a b up.1 j m lt
      ])
    ]

itself : {A : Type 0} (below : A → A → Bool) → IsOrder below → (x : A) (b : Bool) → below x x ≡ b
    → b ≡ false
itself below o x true e = let no : below x x ≡ false = o.asym x x e in cc
itself below o x false e = refl

none_before : {A : Type 0} (below : A → A → Bool) → IsOrder below → (x : A) (xs : List A)
    → ((y : A) → IsIn y xs → below x y ≡ true) → filter (λ y. below y x) xs ≡ []
none_before below o x [] all = refl
none_before below o x (y ∷ ys) all = let no : below y x ≡ false = o.asym x y (all y (inl refl)) in
    rw no (none_before below o x ys (λ z m. all z (inr m)))

-- the number of one that is sorted, by those before it
pub counted : {A : Type 0} (below : A → A → Bool) → IsOrder below
    → (n : ℕ) (xs : List A) (d : ℕ × A) → Rises below xs → IsIn d (enumerate_from n xs)
    → d.0 ≡ n + length (filter (λ y. below y d.1) xs)
counted below o n [] d up m = absurd m
counted {A} below o n (x ∷ xs) d up m =
    elim m [
      | inl e ↦ subst (λ (p : ℕ × A). p.0 ≡ n + length (filter (λ y. below y p.1) (x ∷ xs))) e
          (rw (itself below o x (below x x) refl, none_before below o x xs up.0)
          (let z : n ≡ n + 0 = omega arith in z))
      | inr later ↦ (let first : below x d.1 ≡ true = up.0 d.1 (in_numbered (n + 1) xs d later).1 in
          rw first (let rest = counted below o (n + 1) xs d up.1 later in omega (arith, rest)))
    ]
