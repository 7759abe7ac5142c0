-- What is read of the rows of a query, one by one.
use Rattle.std.specs.Prelude.{◌≡◌, ◌⊎◌, ℕ, List, ◌++◌, ◌∷◌, [], map, Option, Some, None}
use Rattle.std.specs.List.{AllByRecursion}
use Rattle.sqlite_trees.specs.declared.store.Store.{Ghosts}
use Rattle.sqlite_value.specs.Order.{Row}
use Rattle.sqlite.specs.declared.error.Error.{Error}
use Rattle.sqlite.specs.Given.{HasGiven}
use Rattle.sqlite.specs.Held.{Held, state}
use Rattle.sqlite.specs.State.{State, FailsToQuery, IsUnchanged, Shown}
use Rattle.desk_model.specs.declared.command.Fault.{Fault}
use Rattle.desk_model.specs.declared.command.Fault.TheVariants.{Memory}
use Rattle.desk_model.specs.Tables.{Tables}
use Rattle.desk_sql_layout.specs.Faults.{fault_by}
use Rattle.desk_sql_layout.specs.Held.{Holds}
use Rattle.desk_sql_layout.specs.Causes.{IsRow}

-- if these rows are the cells of some values, those values were read
abbrev pub AreRead : {T : Type 0} → (T → Row) → List Row → List T → Type 0
AreRead {T} cells rows found = (xs : List T) → rows ≡ map cells xs → found ≡ xs

-- a query showed rows, from which this was read: `Told` says what it is, by the values whose cells
-- they are
abbrev pub ShowsTold : {T V : Type 0} → (T → Row) → (V → List T → Type 0) → List ℕ → Row → State
    → State → V → Type 0
ShowsTold {T} cells Told sql params old new value =
    (rows : List Row) × Shown sql params old new rows
    × ((xs : List T) → rows ≡ map cells xs → Told value xs)

-- a query showed rows, which were read
abbrev pub ShowsRead : {T : Type 0} → (T → Row) → List ℕ → Row → State → State → List T → Type 0
ShowsRead {T} cells = ShowsTold cells (λ (found xs : List T). found ≡ xs)

-- one more row of a query is read, or there are no more
abbrev pub ReadsOn : {S T : Type 0} → Ghosts S → (T → Row) → List ℕ → Row → Held S → Held S
    → List Row → Option T → Type 0
ReadsOn g cells sql params old new given None = Shown sql params (state g old) (state g new) given
ReadsOn {T = T} g cells sql params old new given (Some x) = (row : Row)
    × HasGiven g sql params new (given ++ row ∷ []) × ((y : T) → row ≡ cells y → x ≡ y)

-- the query failed when the next row was to come, or that row can't be read
abbrev pub FailsToReadOn : {S T : Type 0} → Ghosts S → (T → Row) → (T → Type 0) → List ℕ → Row
    → Held S → Held S → List Row → Fault → Type 0
FailsToReadOn {T = T} g cells has_days sql params old new given fault =
    ((e : Error) × FailsToQuery sql params (state g old) (state g new) e × (fault ≡ fault_by e))
    ⊎ ((row : Row) × HasGiven g sql params new (given ++ row ∷ [])
    × IsUnchanged (state g old) (state g new)
    × ((x : T) → row ≡ cells x → IsRow row → has_days x → fault ≡ Memory))

-- whatever a query shows of tables can be read
pub record CanBeRead {T : Type 0} (cells : T → Row) (has_days : T → Type 0) (sql : List ℕ)
    (params : Row) (old new : State) (t : Tables) : Type 0 where
  pub reads : Holds t old.now → (rows : List Row) → Shown sql params old new rows
      → (xs : List T) × (rows ≡ map cells xs) × AllByRecursion IsRow rows
      × AllByRecursion has_days xs
