-- What a call that makes a query does.
use Rattle.std.specs.Prelude.{◌≡◌, false, IfErr, IfOk, IsTrue, List, OnErr, Result, ℕ}
use Rattle.sqlite_trees.specs.declared.store.Store.{Ghosts}
use Rattle.sqlite_value.specs.Order.{Row}
use Rattle.sqlite.specs.Held.{Held, state}
use Rattle.sqlite.specs.State.{HasCleanDisk}
use Rattle.desk_model.specs.Tables.{Tables}
use Rattle.desk_model.specs.declared.command.Fault.{Fault}
use Rattle.desk_access.specs.Seen.{Kept, Same}
use Rattle.desk_sql_layout.specs.Held.{seen_of}
use Rattle.desk_sql_layout.specs.Desk.{HasDesk}
use Rattle.desk_sql_layout.specs.Causes.{HasCauseIf, IsAsked, IsPlainText}
use Rattle.desk_sql_layout.specs.Streamed.{CanBeRead, ShowsTold}

-- A query that changes nothing. `Shows` says what an answer shows of it, and `If` what has to be
-- true of the tables for it to fail only for a cause.
pub record Queries {S V : Type 0} (g : Ghosts S) (sql : List ℕ) (params : Row) (old new : Held S)
    (result : Result V Fault) (Shows : V → Type 0) (If : Tables → Type 0) : Type 0 where
  pub ok : IsPlainText sql → IfOk result (λ value.
      Same (seen_of (state g old)) (seen_of (state g new))
      × (HasCleanDisk (state g new) → Shows value))
  pub err : IsPlainText sql → OnErr result (Kept (seen_of (state g old)) (seen_of (state g new)))
  pub cause : IsAsked sql params → IfErr result (HasCauseIf If (state g old) (state g new))
  pub limit : new.step_limit ≡ old.step_limit
  pub mode : old.in_transaction ≡ false → new.in_transaction ≡ false

-- Its rows are read, if they are of a desk's tables: `Told` says what was read, by the values whose
-- cells they are.
abbrev pub ReadsQuery : {S T V : Type 0} → Ghosts S → (T → Row) → (T → Type 0)
    → (V → List T → Type 0) → List ℕ → Row
    → Held S → Held S → Result V Fault → Type 0
ReadsQuery g cells has_days Told sql params old new result =
    Queries g sql params old new result
    (λ value. IsTrue (state g old).is_open
    × (HasDesk old.schema → ShowsTold cells Told sql params (state g old) (state g new)
    value))
    (CanBeRead cells has_days sql params (state g old) (state g new))
