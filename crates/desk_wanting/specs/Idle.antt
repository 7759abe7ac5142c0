-- Attached documents of which a release ships nothing.
use Rattle.std.specs.Prelude.{ℕ, Bool, not, List, filter, map}
use Rattle.std.specs.List.{list_any}
use Rattle.desk_model.specs.Keys.{is_shipped_by}
use Rattle.desk_model.specs.Tables.{Tables}
use Rattle.desk_model.specs.History.{attached_to}
use Rattle.desk_model.specs.declared.row.PackageRow.{PackageRow}

-- none of the packages is one that the document ships
abbrev pub ships_nothing : List PackageRow → ℕ → Bool
ships_nothing packages d = not (list_any (is_shipped_by d) packages)

-- the documents that are attached to a release and ship nothing
abbrev pub idle_found : Tables → List ℕ → List ℕ
idle_found t r = filter (ships_nothing t.packages)
    (map (λ row. row.document) (attached_to t.attached r))
