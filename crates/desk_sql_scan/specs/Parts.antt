-- What the parts of a snapshot have of a database, and of the tables that it holds.
use Rattle.std.specs.Prelude.{◌≡◌, pos, [], ◌∷◌, map, filter}
use Rattle.sqlite.specs.Effect.{Database}
use Rattle.desk_history.specs.Laws.{AreSortedAsListed}
use Rattle.desk_sql_layout.specs.Layout.{meta_table, catalogue_table, rule_table, document_table}
use Rattle.desk_sql_layout.specs.Layout.{reading_table, package_table, extracted_table}
use Rattle.desk_sql_layout.specs.Layout.{conclusion_table, adoption_table, releases_table}
use Rattle.desk_sql_layout.specs.Layout.{attached_table, choice_table, frozen_table, duty_table}
use Rattle.desk_sql_layout.specs.Layout.{change_table, waiver_table}
use Rattle.desk_model.specs.Tables.{Tables}
use Rattle.desk_model.specs.Moves.{is_waiver}
use Rattle.desk_snapshot.specs.Orders.{reading_order, package_order, conclusion_order}
use Rattle.desk_snapshot.specs.Orders.{release_order, attached_order, choice_order, frozen_order}
use Rattle.desk_snapshot.specs.Orders.{change_order, waiver_order}
use Rattle.desk_snapshot.specs.Tables.{catalogue_stored, rule_stored, document_stored}
use Rattle.desk_snapshot.specs.Tables.{reading_stored, package_stored, extracted_stored}
use Rattle.desk_snapshot.specs.Tables.{conclusion_stored, adoption_stored, release_stored}
use Rattle.desk_snapshot.specs.Tables.{attached_stored, choice_stored, frozen_stored, duty_stored}
use Rattle.desk_snapshot.specs.Tables.{change_stored, waiver_stored, snapshot_of}
use Rattle.desk_sql_scan.specs.Cells.{stored_meta_cells, stored_catalogue_cells, stored_rule_cells}
use Rattle.desk_sql_scan.specs.Cells.{stored_document_cells, stored_reading_cells}
use Rattle.desk_sql_scan.specs.Cells.{stored_package_cells, stored_extracted_cells}
use Rattle.desk_sql_scan.specs.Cells.{stored_conclusion_cells, stored_adoption_cells}
use Rattle.desk_sql_scan.specs.Cells.{stored_release_cells, stored_attached_cells}
use Rattle.desk_sql_scan.specs.Cells.{stored_choice_cells, stored_frozen_cells, stored_duty_cells}
use Rattle.desk_sql_scan.specs.Cells.{stored_change_cells, stored_waiver_cells}
use Rattle.desk_sql_scan.specs.Orders.{meta_order, catalogue_order, rule_order, document_order}
use Rattle.desk_sql_scan.specs.Orders.{extracted_order, adoption_order, duty_order}
use Rattle.desk_sql_scan.specs.Scans.{IsScan}
use Rattle.desk_snapshot.specs.declared.snapshot.Snapshot.{Snapshot}
use Rattle.desk_sql_scan.specs.declared.whole.FirstPart.{FirstPart}
use Rattle.desk_sql_scan.specs.declared.whole.SecondPart.{SecondPart}
use Rattle.desk_sql_scan.specs.declared.catalogues.CataloguePart.{CataloguePart}
use Rattle.desk_sql_scan.specs.declared.documents.DocumentPart.{DocumentPart}
use Rattle.desk_sql_scan.specs.declared.office.OfficePart.{OfficePart}
use Rattle.desk_sql_scan.specs.declared.releases.ReleasePart.{ReleasePart}
use Rattle.desk_sql_scan.specs.declared.duties.DutyPart.{DutyPart}

-- the version of the tables, and the revisions of the catalogue with their rules
abbrev pub HasCatalogues : CataloguePart → Database → Type 0
HasCatalogues part db =
    IsScan meta_table stored_meta_cells meta_order part.meta db
    × (IsScan catalogue_table stored_catalogue_cells catalogue_order part.catalogue db
    × (IsScan rule_table stored_rule_cells rule_order part.rule db))

-- what this part has of tables: version 3, the revisions, and the rules if they are listed sorted
abbrev pub OfCatalogues : CataloguePart → Tables → Type 0
OfCatalogues part t = (part.meta ≡ record { version = pos 3 } ∷ [])
    × ((part.catalogue ≡ map catalogue_stored t.catalogue)
    × ((AreSortedAsListed t → part.rule ≡ map rule_stored t.rule)))

-- documents with their profiles, packages and extracted licences
abbrev pub HasDocuments : DocumentPart → Database → Type 0
HasDocuments part db =
    IsScan document_table stored_document_cells document_order part.document db
    × (IsScan reading_table stored_reading_cells reading_order part.reading db
    × (IsScan package_table stored_package_cells package_order part.packages db
    × (IsScan extracted_table stored_extracted_cells extracted_order part.extracted db)))

-- what this part has of tables, and the extracted licences if they are listed sorted
abbrev pub OfDocuments : DocumentPart → Tables → Type 0
OfDocuments part t = (part.document ≡ map document_stored t.document)
    × ((part.reading ≡ map reading_stored t.document)
    × ((part.packages ≡ map package_stored t.packages)
    × ((AreSortedAsListed t → part.extracted ≡ map extracted_stored t.extracted))))

-- what the office concluded and adopted
abbrev pub HasOffice : OfficePart → Database → Type 0
HasOffice part db =
    IsScan conclusion_table stored_conclusion_cells conclusion_order part.conclusion db
    × (IsScan adoption_table stored_adoption_cells adoption_order part.adoption db)

-- what this part has of tables, in their order
abbrev pub OfOffice : OfficePart → Tables → Type 0
OfOffice part t = (part.conclusion ≡ map conclusion_stored t.conclusion)
    × ((part.adoption ≡ map adoption_stored t.adoption))

-- releases with their documents, and their chosen and frozen terms
abbrev pub HasReleases : ReleasePart → Database → Type 0
HasReleases part db =
    IsScan releases_table stored_release_cells release_order part.releases db
    × (IsScan attached_table stored_attached_cells attached_order part.attached db
    × (IsScan choice_table stored_choice_cells choice_order part.choice db
    × (IsScan frozen_table stored_frozen_cells frozen_order part.frozen db)))

-- what this part has of tables, in their order
abbrev pub OfReleases : ReleasePart → Tables → Type 0
OfReleases part t = (part.releases ≡ map release_stored t.releases)
    × ((part.attached ≡ map attached_stored t.attached)
    × ((part.choice ≡ map choice_stored t.choice) × ((part.frozen ≡ map frozen_stored t.frozen))))

-- duties with their changes, and the last days of waivers
abbrev pub HasDuties : DutyPart → Database → Type 0
HasDuties part db =
    IsScan change_table stored_change_cells change_order part.changes db
    × (IsScan duty_table stored_duty_cells duty_order part.duty db
    × (IsScan waiver_table stored_waiver_cells waiver_order part.waiver db))

-- what this part has of tables; waivers are the changes that have a last day
abbrev pub OfDuties : DutyPart → Tables → Type 0
OfDuties part t = (part.changes ≡ map change_stored t.changes)
    × ((part.duty ≡ map duty_stored t.duty)
    × ((part.waiver ≡ map waiver_stored (filter is_waiver t.changes))))

-- the snapshot of two parts
abbrev pub joined_of : FirstPart → SecondPart → Snapshot
joined_of first second = record {
  meta = second.catalogues.meta;
  catalogue = second.catalogues.catalogue;
  rule = second.catalogues.rule;
  document = first.documents.document;
  reading = first.documents.reading;
  packages = first.documents.packages;
  extracted = first.documents.extracted;
  conclusion = second.office.conclusion;
  adoption = second.office.adoption;
  releases = second.releases.releases;
  attached = second.releases.attached;
  choice = second.releases.choice;
  frozen = second.releases.frozen;
  duty = first.duties.duty;
  changes = first.duties.changes;
  waiver = first.duties.waiver;
}

-- The snapshot has the rows of these tables. Rules and extracted licences are in the order of their
-- keys, in which right readings list them too.
pub record AreRowsOf (s : Snapshot) (t : Tables) : Type 0 where
  pub rows : s ≡ record (snapshot_of t) { rule = s.rule; extracted = s.extracted }
  pub listed : AreSortedAsListed t → s ≡ snapshot_of t
