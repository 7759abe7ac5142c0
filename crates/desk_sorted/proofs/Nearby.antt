-- A run of rows that begins at a place.
use Rattle.std.proofs.Common.{◌≡◌, ℕ, ◌-◌, ◌<◌, ◌≤◌, Bool, true, false, List, length, get_or, sym, refl, ◌∙◌, arith}
use Rattle.std.specs.List.{AllWithin}
use Rattle.std.specs.List.Sorted.{IsPartitionPoint, IsPartitionedBy}
use Rattle.std.specs.Ordering.{is_lt, is_le}
use Rattle.std.specs.declared.cmp.Ordering.{Ordering}
use Rattle.std.specs.declared.cmp.Ordering.TheVariants.{Less, Equal, Greater}
use Rattle.std.specs.Prelude.{nat_lt}
use Rattle.std.proofs.lemmas.Bool.Decides.{nat_tests}
use Rattle.desk_sorted.specs.Sorted.{Begins, IsEnd, IsRun, Rises}
use Rattle.desk_sorted.proofs.Halving.{is_run, partitioned_lt, partitioned_le}

module _ {A : Type 0} (test : A → Bool) (xs : List A) (by : IsPartitionedBy test xs) where
  -- a test that fails for one row fails from there on
  fails_on : (i j : ℕ) (d : A) → i ≤ j → j < length xs → test (get_or xs i d) ≡ false → (b : Bool)
      → test (get_or xs j d) ≡ b → b ≡ false
  fails_on i j d le lt fails true e = sym (by i j d le lt e) ∙ fails
  fails_on i j d le lt fails false e = refl

  pub point_of : (n : ℕ) → n ≤ length xs → AllWithin (λ x. test x ≡ true) xs 0 n
      → ((d : A) → n < length xs → test (get_or xs n d) ≡ false)
      → IsPartitionPoint (λ x. test x ≡ true) (λ x. test x ≡ false) xs n
  point_of n within front back = (
    front,
    λ k d a b. fails_on n k d a b (back d (omega (arith, a, b))) (test (get_or xs k d)) refl,
  )

  pub point_behind : (n : ℕ) → n ≤ length xs → ((d : A) → 0 < n → test (get_or xs (n - 1) d) ≡ true)
      → ((d : A) → n < length xs → test (get_or xs n d) ≡ false)
      → IsPartitionPoint (λ x. test x ≡ true) (λ x. test x ≡ false) xs n
  point_behind n within front back =
      point_of n within (λ k d a b. by k (n - 1) d (omega (arith, b)) (omega (arith, b, within))
      (front d (omega (arith, b)))) back

lt_is_le : (o : Ordering) → is_lt o ≡ true → is_le o ≡ true
lt_is_le Less e = refl
lt_is_le Equal e = cc
lt_is_le Greater e = cc

pub run_from : {A : Type 0} (side : A → Ordering) (xs : List A) (low high : ℕ) → Rises side xs
    → Begins side xs low → IsEnd side xs low high → IsRun side xs low high
run_from {A} side xs low high up begins ends =
    is_run side xs low high begins.within ends.within starts
    (point_of (λ x. is_le (side x)) xs (partitioned_le side xs up) high ends.within
    (λ k d a b. either k d b (nat_lt k low) refl) ends.back)
  where
    starts : IsPartitionPoint (λ x. is_lt (side x) ≡ true) (λ x. is_lt (side x) ≡ false) xs low
    starts = point_behind (λ x. is_lt (side x)) xs (partitioned_lt side xs up) low begins.within
        begins.front begins.back

    either : (k : ℕ) (d : A) → k < high → (b : Bool) → nat_lt k low ≡ b
        → is_le (side (get_or xs k d)) ≡ true
    either k d lt true e = lt_is_le (side (get_or xs k d))
        (starts.0 k d (omega arith) (grind (arith, nat_tests)))
    either k d lt false e = ends.front k d (grind (arith, nat_tests)) lt
