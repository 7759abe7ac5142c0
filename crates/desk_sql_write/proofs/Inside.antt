-- What a statement does inside a transaction, and what several do one after another.
use Rattle.std.proofs.Common.{◌⊎◌, inl, inr, List, ℕ, Err}
use Rattle.sqlite_value.specs.Order.{Row}
use Rattle.sqlite.specs.declared.error.Error.{Error}
use Rattle.sqlite.specs.State.{State, Survives, ExecutesInside, IsUnchanged, IsRolledBack}
use Rattle.sqlite.specs.State.{KeepsCommit}
use Rattle.sqlite.proofs.StateLemmas.{survives_then}

moved : (old new : State) → IsUnchanged old new ⊎ IsRolledBack old new → KeepsCommit old new
moved old new (inl same) = record {
  was_open = λ is. same.0.was_open;
  committed = λ is. same.0.committed_is;
}
moved old new (inr back) = record { was_open = back.was_open; committed = λ is. (back.undone is).1 }

pub lost : (sql : List ℕ) (params : Row) (old new : State) (e : Error)
    → ExecutesInside 0 sql params old new (Err e) → KeepsCommit old new
lost sql params old new e (inl h) = moved old new h.1
lost sql params old new e (inr h) = moved old new (inl h.2)

pub survives_both : (a b c : State) → Survives a b (λ _. ⊥) → Survives b c (λ _. ⊥)
    → Survives a c (λ _. ⊥)
survives_both a b c first next = survives_then a b c _ _ (λ _. ⊥) (λ _ db none. none)
    (λ _ db none. none) first next
