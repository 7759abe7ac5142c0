use Rattle.std.proofs.Common.{◌≡◌, ◌↔◌, ℕ, ◌<◌, ◌+◌, Some}
use Rattle.std.specs.Prelude.{slice_get, ◌≢◌}
use Rattle.std.specs.Int.{bit_at}
use Rattle.desk_expr.specs.declared.term.Term.{Term}
use Rattle.desk_alts.proofs.truth.others.Given as goal

-- the bits below the index are right for the candidates there, and no bit is set from it on
abbrev pub invariant-loop-k : goal.invariant-loop-k
invariant-loop-k l = record {
  told : (j place : ℕ) (gone : Term) → j < l.k → slice_get l.candidates j ≡ Some place
      → slice_get l.chosen place ≡ Some gone → (bit_at l.marks j ≡ 1) ↔ (l.term ≢ gone);
  unset : (j : ℕ) → l.k < j + 1 → bit_at l.marks j ≡ 0;
}
