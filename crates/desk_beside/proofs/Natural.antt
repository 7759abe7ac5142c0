-- Numbers that aren't below 0, and rows that come back from what was read of them.
use Rattle.std.proofs.Common.{◌≡◌, ◌⊎◌, inl, inr, ℕ, ◌+◌, ◌<◌, ◌≤◌, ℤ, pos, negsuc, Bool, true, false}
use Rattle.std.proofs.Common.{not, cond, filter, List, [], ◌∷◌, map, length, refl, sym, ap, ap₂, subst, ◌∙◌, arith}
use Rattle.std.specs.Prelude.{IsPermutation}
use Rattle.std.specs.List.{AllByRecursion}
use Rattle.std.proofs.lemmas.Bool.Decides.{nat_tests}
use Rattle.std.proofs.lemmas.List.Sorted.{list_any-IsPermutation}
use Rattle.desk_base.proofs.Bools.{contrary}
use Rattle.desk_model.specs.Lists.{IsIn}
use Rattle.desk_model.proofs.Lists.{one_any, one_passes}
use Rattle.desk_snapshot.specs.Rows.{AreFrom}
use Rattle.desk_beside.specs.Beside.{is_natural}

-- a number that isn't below 0, or 0
abbrev pub size : ℤ → ℕ
size (pos n) = n
size (negsuc n) = 0

pub size_is : (m : ℤ) → is_natural m ≡ true → pos (size m) ≡ m
size_is (pos n) is = refl
size_is (negsuc n) is = absurd (cc)

pub size_of : (m : ℤ) (n : ℕ) → m ≡ pos n → pos (size m) ≡ m
size_of m n is = ap (λ (k : ℤ). pos (size k)) is ∙ sym is

pub is_counted : (n : ℕ) → is_natural (pos n) ≡ true
is_counted n = grind (arith, nat_tests)

-- ---- rows

-- rows come back if each of them does
pub come_back : {X Y : Type 0} (f : X → Y) (g : Y → X) (ys : List Y)
    → ((y : Y) → IsIn y ys → f (g y) ≡ y) → map f (map g ys) ≡ ys
come_back f g [] each = refl
come_back f g (y ∷ ys) each = ap₂ (λ z zs. z ∷ zs) (each y (inl refl))
    (come_back f g ys (λ z there. each z (inr there)))

pub of_each : {A : Type 0} (P : A → Type 0) (xs : List A) → AllByRecursion P xs → (x : A)
    → IsIn x xs → P x
of_each P [] all x there = absurd there
of_each P (y ∷ ys) all x (inl same) = subst P same all.0
of_each P (y ∷ ys) all x (inr there) = of_each P ys all.1 x there

pub in_kept : {A : Type 0} (test : A → Bool) (x : A) (xs : List A) → test x ≡ true → IsIn x xs
    → IsIn x (filter test xs)
in_kept test x [] is there = absurd there
in_kept {A} test x (y ∷ ys) is there = by (in_kept test x ys is) (test y) refl there
  where
    by : (IsIn x ys → IsIn x (filter test ys)) → (b : Bool) → test y ≡ b → IsIn x (y ∷ ys)
        → IsIn x (cond b (y ∷ filter test ys) (filter test ys))
    by later true e (inl same) = inl same
    by later true e (inr more) = inr (later more)
    by later false e (inl same) = absurd (contrary (test x) is (ap test (sym same) ∙ e))
    by later false e (inr more) = later more

-- what is true of each is true in any order
pub in_any_order : {A : Type 0} (test : A → Bool) (xs ys : List A) → IsPermutation xs ys
    → ((x : A) → IsIn x xs → test x ≡ true) → (y : A) → IsIn y ys → test y ≡ true
in_any_order {A} test xs ys same each y there = by (test y) refl
  where
    by : (b : Bool) → test y ≡ b → test y ≡ true
    by true is = is
    by false is =
        let other = λ (x : A). not (test x) in
        let found = one_passes other xs (list_any-IsPermutation other xs ys same
        ∙ one_any other y ys there (ap not is)) in
        absurd (contrary (test found.0) (each found.0 found.1) (failed (test found.0) found.2))
      where
        failed : (b : Bool) → not b ≡ true → b ≡ false
        failed true e = cc
        failed false e = refl

-- ---- numbers in a row

first : (n k : ℕ) → n ≤ k → (n ≡ k) ⊎ (n + 1 ≤ k)
first n k low = grind (arith, nat_tests)

-- each of the numbers from n has its row
pub has_number : {A : Type 0} (f : A → ℤ) (n k : ℕ) (xs : List A) → AreFrom n (map f xs) → n ≤ k
    → k < n + length xs → (x : A) × IsIn x xs × (f x ≡ pos k)
has_number f n k [] are low high = absurd (omega (arith, low, high))
has_number f n k (x ∷ xs) are low high = elim (first n k low) [
  | inl same ↦ (x, inl refl, are.0 ∙ ap pos same)
  | inr more ↦ (let later = has_number f (n + 1) k xs are.1 more (omega (arith, high)) in
      (later.0, inr later.1, later.2))
]

pub from_numbers : (n : ℕ) (ms : List ℤ) → AreFrom n ms → (m : ℤ) → IsIn m ms
    → (k : ℕ) × (m ≡ pos k)
from_numbers n [] are m there = absurd there
from_numbers n (k ∷ ks) are m (inl same) = (n, sym same ∙ are.0)
from_numbers n (k ∷ ks) are m (inr there) = from_numbers (n + 1) ks are.1 m there
