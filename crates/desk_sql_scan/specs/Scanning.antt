-- What asking for all rows of a table does to the source.
use Rattle.std.specs.Prelude.{◌≡◌, ℕ, List, [], IfErr, IfOk, Result}
use Rattle.std.specs.List.{AllByRecursion}
use Rattle.sqlite_value.specs.Order.{Row}
use Rattle.sqlite.specs.Effect.{Database}
use Rattle.sqlite.specs.State.{HasCleanDisk, Shown}
use Rattle.desk_model.specs.Tables.{Tables}
use Rattle.desk_model.specs.declared.command.Fault.{Fault}
use Rattle.desk_sql_layout.specs.Causes.{IsAsked}
use Rattle.desk_sql_adopt.specs.Reading.{Asks}
use Rattle.desk_sql_scan.specs.Asked.{HasAsked}
use Rattle.desk_sql_scan.specs.Causes.{AreCells, ScanFailsFor, ScanFailsIf}
use Rattle.desk_sql_scan.specs.Scans.{IsRead, IsShown}
use Rattle.desk_sql_scan.specs.declared.source.Source.{Ghosts}

-- The rows that a query shows are read.
pub record Lists {S A : Type 0} (g : Ghosts S) (sql : List ℕ) (width : ℕ) (cells_of : A → Row)
    (old new : S) (result : Result (List A) Fault) : Type 0 where
  pub shown : HasCleanDisk (g.shows new)
      → IfOk result (λ rows. IsShown sql width cells_of rows (g.shows old) (g.shows new))
  pub asked : Asks sql → HasAsked (g.shows old) (g.shows new) result
  pub ready : g.is_ready new
  pub same_reference : g.name new ≡ g.name old
  -- if whatever is shown are the cells of such rows
  pub cause : Asks sql → IsAsked sql []
      → IfErr result (ScanFailsIf ((rows : List Row) → Shown sql [] (g.shows old) (g.shows new) rows
      → AllByRecursion (AreCells cells_of) rows) (g.shows old) (g.shows new))

-- Tables are read. `Raw` says what was read of the database that is shown, and `Is` what was read
-- of the tables that it holds.
pub record Scans {S A : Type 0} (g : Ghosts S) (old new : S) (result : Result A Fault)
    (Raw : A → Database → Type 0) (Is : A → Tables → Type 0) : Type 0 where
  pub ok : IfOk result (λ x. IsRead (Raw x) (Is x) (g.shows old) (g.shows new))
  pub asked : HasAsked (g.shows old) (g.shows new) result
  pub ready : g.is_ready new
  pub same_reference : g.name new ≡ g.name old
  pub cause : IfErr result (ScanFailsFor (g.shows old) (g.shows new))
