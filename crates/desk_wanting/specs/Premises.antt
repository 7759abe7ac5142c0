-- What a reading of texts and tables must meet for a sole choice to be accepted. The tables of a
-- recorded history do, with a reading that lists the packages of a document in order.
use Rattle.std.specs.Prelude.{◌≡◌, ℕ, true, List, Some, Ok}
use Rattle.desk_base.specs.declared.profile.Profile.{Profile}
use Rattle.desk_model.specs.Lists.{IsIn}
use Rattle.desk_model.specs.Readings.{Readings}
use Rattle.desk_model.specs.Tables.{Tables}
use Rattle.desk_model.specs.declared.reading.Verdict.TheVariants.{Minimal}
use Rattle.desk_model.specs.declared.row.AttachedRow.{AttachedRow}
use Rattle.desk_model.specs.declared.row.PackageRow.{PackageRow}
use Rattle.desk_history.specs.FromTables.{package_found, stands_document}

-- each listed set is a minimal one, and each of its terms spells itself
pub record ListsMinimalSets (w : Readings) : Type 0 where
  pub minimal : (profile : Profile) (text : List ℕ) (sets : List (List (List ℕ)))
      (set : List (List ℕ)) → w.alternatives profile text ≡ Ok sets → IsIn set sets
      → w.verdict profile text set ≡ Minimal
  pub printed : (profile : Profile) (text : List ℕ) (sets : List (List (List ℕ)))
      (set : List (List ℕ)) (term : List ℕ) → w.alternatives profile text ≡ Ok sets
      → IsIn set sets → IsIn term set → w.term term ≡ Some term

-- each attached document exists, and each package is the one that is found by its document and id
pub record FindsPackages (t : Tables) : Type 0 where
  pub documents : (row : AttachedRow) → IsIn row t.attached → stands_document t row.document ≡ true
  pub packages : (p : PackageRow) → IsIn p t.packages → package_found t p.document p.id ≡ Some p
