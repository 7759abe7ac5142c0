-- A number whose bits say for which listed terms a fact holds.
use Rattle.std.specs.Prelude.{◌≡◌, ◌↔◌, ℕ, List, slice_get, Some}
use Rattle.std.specs.Int.{bit_at}
use Rattle.desk_expr.specs.declared.term.Term.{Term}

-- bit k is set if and only if the fact holds for the term at candidate k
abbrev pub Marks : ℕ → List Term → List ℕ → (Term → Type 0) → Type 0
Marks marks chosen candidates P = (k place : ℕ) (t : Term) → slice_get candidates k ≡ Some place
    → slice_get chosen place ≡ Some t → (bit_at marks k ≡ 1) ↔ P t
