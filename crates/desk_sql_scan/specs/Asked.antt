-- What asking for rows does to a connection, inside or outside a transaction.
use Rattle.std.specs.Prelude.{◌≡◌, IsTrue, Result, Ok, Err}
use Rattle.sqlite.specs.State.{State, HasCleanDisk, IsUnchanged, KeepsCommit, Survives}
use Rattle.desk_model.specs.declared.command.Fault.{Fault}

-- all that is shown is committed
abbrev pub IsSettled : State → Type 0
IsSettled s = IsTrue s.is_open → s.now ≡ s.committed

-- Nothing was committed, and a stop leaves nothing that it couldn't leave before. A connection that
-- shows only what is committed shows what it showed, as far as it still shows anything; inside a
-- transaction what was written may be undone.
pub record IsSpared (old new : State) : Type 0 where
  pub survives : Survives old new (λ _. ⊥)
  pub kept : HasCleanDisk new → KeepsCommit old new
  pub now : HasCleanDisk new → IsSettled old → IsTrue new.is_open → new.now ≡ old.now

-- if rows came, nothing has changed
abbrev pub HasAsked : {A : Type 0} → State → State → Result A Fault → Type 0
HasAsked old new (Ok x) = Survives old new (λ _. ⊥) × (HasCleanDisk new → IsUnchanged old new)
HasAsked old new (Err fault) = IsSpared old new
