-- What a release ships, without going through its documents.
use Rattle.std.specs.Prelude.{◌≡◌, ℕ, true, List}
use Rattle.desk_model.specs.Lists.{IsIn}
use Rattle.desk_model.specs.Readings.{Readings}
use Rattle.desk_model.specs.History.{packages}
use Rattle.desk_model.specs.declared.row.PackageRow.{PackageRow}
use Rattle.desk_model.specs.declared.command.Command.{Command}
use Rattle.desk_model.specs.declared.command.Command.TheVariants.{Attach}

-- a package that a release ships: its document was attached to the release, has the package and
-- ships it
pub record IsShipped (w : Readings) (h : List Command) (r : List ℕ) (p : PackageRow) : Type 0 where
  pub attached : IsIn (Attach r p.document) h
  pub listed : IsIn p (packages w h)
  pub ships : p.shipped ≡ true
