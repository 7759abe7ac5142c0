-- What a look-up does.
use Rattle.std.specs.Prelude.{◌≡◌, false, IfErr, IfOk, IsTrue, OnOk, Result}
use Rattle.sqlite_trees.specs.declared.store.Store.{Ghosts}
use Rattle.sqlite.specs.Held.{Held, state}
use Rattle.sqlite.specs.State.{HasCleanDisk, IsUnchanged}
use Rattle.desk_model.specs.Tables.{Tables}
use Rattle.desk_model.specs.declared.command.Fault.{Fault}
use Rattle.desk_access.specs.Seen.{Looked, OfRows}
use Rattle.desk_sql_layout.specs.Desk.{HasDesk}
use Rattle.desk_sql_layout.specs.Held.{seen_of}
use Rattle.desk_sql_layout.specs.Causes.{HasCauseIf}

-- A look-up over a connection. `Is` says what was found of the tables, and `Given` what its caller
-- says of them.
pub record LooksUpGiven {S A : Type 0} (g : Ghosts S) (Given : Tables → Type 0) (old new : Held S)
    (result : Result A Fault) (Is : A → Tables → Type 0) : Type 0 where
  -- what was found is true of the rows
  pub found : IfOk result (λ x. OfRows (Is x) (seen_of (state g old)) (seen_of (state g new)))
  pub kept : Looked (seen_of (state g old)) (seen_of (state g new)) result
  -- an answer leaves everything as it was
  pub unchanged : OnOk result (HasCleanDisk (state g new) → IsTrue (state g old).is_open
      → HasDesk old.schema → IsUnchanged (state g old) (state g new))
  pub cause : IfErr result (HasCauseIf Given (state g old) (state g new))
  -- no limit is set on the steps of a query
  pub limit : new.step_limit ≡ old.step_limit
  -- no transaction is open after it if none was before
  pub mode : old.in_transaction ≡ false → new.in_transaction ≡ false

-- a look-up that relies on nothing but the rows
abbrev pub LooksUp : {S A : Type 0} → Ghosts S → Held S → Held S → Result A Fault
    → (A → Tables → Type 0) → Type 0
LooksUp g = LooksUpGiven g (λ t. Unit {0})

-- a look-up that finds what it does, and fails only for a cause, if something is true of the tables
abbrev pub LooksUpIf : {S A : Type 0} → Ghosts S → (Tables → Type 0) → Held S → Held S
    → Result A Fault → (A → Tables → Type 0) → Type 0
LooksUpIf g Given old new result Is = LooksUpGiven g Given old new result (λ x t. Given t → Is x t)
