-- The gaps of a release, put together.
use Rattle.std.proofs.Common.{◌≡◌, ℕ, List, ◌++◌, map, ap}
use Rattle.std.specs.List.{flat_map}
use Rattle.std.proofs.lemmas.List.Folds.{flat_map-map}
use Rattle.desk_model.specs.Bills.{first_uses, revision_text}
use Rattle.desk_model.specs.Gaps.{copyright_gaps, gaps_of, revision_for, shipment_gaps, text_gaps}
use Rattle.desk_model.specs.Gaps.{twice_gaps}
use Rattle.desk_model.specs.History.{attached_to}
use Rattle.desk_model.specs.Raised.{shipped_of}
use Rattle.desk_model.specs.Readings.{Readings}
use Rattle.desk_model.specs.Tables.{Tables}
use Rattle.desk_model.specs.declared.bill.TextOf.{TextOf}
use Rattle.desk_model.specs.declared.gap.Gap.{Gap}
use Rattle.desk_model.specs.declared.row.AttachedRow.{AttachedRow}
use Rattle.desk_model.specs.declared.row.PackageRow.{PackageRow}
use Rattle.desk_model.specs.declared.row.ReleaseRow.{ReleaseRow}
use Rattle.desk_history.specs.FromTables.{sources_found}
use Rattle.desk_bills.specs.Lacking.{named_by, needed_of}
use Rattle.desk_bills.specs.declared.needed.Needed.{Needed}

module _ (w : Readings) (t : Tables) (row : ReleaseRow) (attached : List AttachedRow)
    (ps : List PackageRow) (needed : List Needed) (uses : List TextOf) (revision : ℕ)
    (texts lacks all : List Gap) where
  pub gaps_put : attached ≡ attached_to t.attached row.name → ps ≡ shipped_of attached t.packages
      → lacks ≡ flat_map copyright_gaps ps
      ++ (flat_map (shipment_gaps ps) attached ++ flat_map (twice_gaps ps) ps)
      → needed ≡ map (needed_of w t row.name) ps
      → uses ≡ first_uses (flat_map (named_by w) needed)
      → revision ≡ revision_for t.catalogue row
      → texts ≡ flat_map (text_gaps w (revision_text t.catalogue revision) t.extracted) uses
      → all ≡ texts ++ lacks → all ≡ gaps_of w (sources_found w t row)
  gaps_put e-attached e-ps e-lacks e-needed e-uses e-revision e-texts e-all =
      let shipped = shipped_of (attached_to t.attached row.name) t.packages in
      rw (e-all, e-texts, e-lacks, e-uses, e-revision, e-needed, e-ps, e-attached)
      (ap (λ (named : List TextOf). flat_map (text_gaps w (revision_text t.catalogue
      (revision_for t.catalogue row)) t.extracted) (first_uses named)
      ++ (flat_map copyright_gaps shipped
      ++ (flat_map (shipment_gaps shipped) (attached_to t.attached row.name)
      ++ flat_map (twice_gaps shipped) shipped)))
      (flat_map-map (named_by w) (needed_of w t row.name) shipped))
