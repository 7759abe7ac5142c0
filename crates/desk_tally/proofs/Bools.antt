-- Tests that pass together, and texts that are the same.
use Rattle.std.proofs.Common.{◌≡◌, ℕ, ◌≤◌, true, arith}
use Rattle.std.specs.Prelude.{nat_le}
use Rattle.std.proofs.lemmas.Bool.Decides.{nat_tests}
use Rattle.std.proofs.lemmas.Bool.{and_from}
use Rattle.desk_tally.specs.Stands.{is_within}
use Rattle.desk_base.proofs.Bools.{and_left, and_right}

pub within_low : (count n : ℕ) → is_within count n ≡ true → 1 ≤ n
within_low count n e = let low : nat_le 1 n ≡ true = and_left (nat_le 1 n) (nat_le n count) e in
    grind (arith, nat_tests)

pub within_high : (count n : ℕ) → is_within count n ≡ true → n ≤ count
within_high count n e = let high : nat_le n count ≡ true =
    and_right (nat_le 1 n) (nat_le n count) e in grind (arith, nat_tests)

pub within_from : (count n : ℕ) → 1 ≤ n → n ≤ count → is_within count n ≡ true
within_from count n low high =
    and_from (nat_le 1 n) (nat_le n count)
    (let a : nat_le 1 n ≡ true = grind (arith, nat_tests) in a)
    (let b : nat_le n count ≡ true = grind (arith, nat_tests) in b)
