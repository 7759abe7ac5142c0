-- The desk's tables, each with the rows that it holds, no two of which have the same key.
use Rattle.std.proofs.Common.{◌≡◌, ℕ, true, List, [], ◌∷◌, map, filter, get_or, slice_get, Some}
use Rattle.std.proofs.Common.{refl}
use Rattle.sqlite_value.specs.Keys.{plain}
use Rattle.sqlite_value.specs.Order.{Row}
use Rattle.sqlite_schema.specs.declared.schema.Table.{Table}
use Rattle.sqlite.specs.State.{State}
use Rattle.desk_model.specs.Tables.{Tables}
use Rattle.desk_model.specs.declared.row.AdoptionRow.{AdoptionRow}
use Rattle.desk_model.specs.declared.row.AttachedRow.{AttachedRow}
use Rattle.desk_model.specs.declared.row.CatalogueRow.{CatalogueRow}
use Rattle.desk_model.specs.declared.row.ChangeRow.{ChangeRow}
use Rattle.desk_model.specs.declared.row.ChoiceRow.{ChoiceRow}
use Rattle.desk_model.specs.declared.row.ConclusionRow.{ConclusionRow}
use Rattle.desk_model.specs.declared.row.DocumentRow.{DocumentRow}
use Rattle.desk_model.specs.declared.row.DutyRow.{DutyRow}
use Rattle.desk_model.specs.declared.row.ExtractedRow.{ExtractedRow}
use Rattle.desk_model.specs.declared.row.FrozenRow.{FrozenRow}
use Rattle.desk_model.specs.declared.row.PackageRow.{PackageRow}
use Rattle.desk_model.specs.declared.row.ReleaseRow.{ReleaseRow}
use Rattle.desk_model.specs.declared.row.RuleRow.{RuleRow}
use Rattle.desk_model.specs.Moves.{is_waiver}
use Rattle.desk_sql_layout.specs.Cells.{adoption_cells, attached_cells, catalogue_cells}
use Rattle.desk_sql_layout.specs.Cells.{change_cells, choice_cells, conclusion_cells}
use Rattle.desk_sql_layout.specs.Cells.{document_cells, duty_cells, extracted_cells, frozen_cells}
use Rattle.desk_sql_layout.specs.Cells.{package_cells, reading_cells, release_cells, rule_cells}
use Rattle.desk_sql_layout.specs.Cells.{waiver_cells}
use Rattle.desk_sql_layout.specs.Held.{Holds, labelled, rows_of}
use Rattle.desk_sql_layout.specs.Layout as d
use Rattle.desk_sql_layout.specs.Stored.{cells}
use Rattle.desk_sql_layout.proofs.Selecting.{as_declared}
use Rattle.desk_sql_layout.proofs.Selects.{AreApart, by_rowid, by_unique}
use Rattle.desk_sql_layout.proofs.Ties.{are_keys}

-- a table, the rows that it holds, and their cells
pub record View (X : Type 0) : Type 0 where
  pub table : Table
  pub place : ℕ
  pub listed : slice_get d.desk_schema.tables place ≡ Some (as_declared table)
  pub cells_of : X → Row
  pub held : Tables → List X
  pub here : (t : Tables) → rows_of t table.tree ≡ map cells_of (held t)

abbrev pub view_of : {X : Type 0} (table : Table) (place : ℕ) (cells_of : X → Row)
    (held : Tables → List X) → slice_get d.desk_schema.tables place ≡ Some (as_declared table)
    → ((t : Tables) → rows_of t table.tree ≡ map cells_of (held t)) → View X
view_of table place cells_of held listed here = record {
  table = table;
  place = place;
  listed = listed;
  cells_of = cells_of;
  held = held;
  here = here;
}

-- no two of its rows have the same key
abbrev pub StandApart : {X : Type 0} → View X → List ℕ → Type 1
StandApart view ps = (t : Tables) (old : State) → Holds t old.now
    → AreApart ps (labelled old.now view.table.tree)

apart_by_rowid : {X : Type 0} (view : View X) → StandApart view (0 ∷ [])
apart_by_rowid view t old holds =
    let this = view.table in
    by_rowid this.name this.tree this.columns this.key this.primary this.uniques this.orders
    view.place view.listed
    view.cells_of (rows_of t) (view.held t) (view.here t) old.now holds.rows

-- the key is declared unique, and is in these columns of the cells
record IsKey {X : Type 0} (view : View X) (nth : ℕ) (ps at : List ℕ) : Type 0 where
  unique : slice_get view.table.uniques nth ≡ Some ps
  order : get_or view.table.orders nth plain ≡ plain
  keyed : (r : Row) → are_keys ps r ≡ are_keys at (cells (as_declared view.table) r)
  are : (x : X) → are_keys at (view.cells_of x) ≡ true

apart_by_key : {X : Type 0} (view : View X) (nth : ℕ) (ps at : List ℕ) → IsKey view nth ps at
    → StandApart view ps
apart_by_key view nth ps at is t old holds =
    let this = view.table in
    by_unique this.name this.tree this.columns this.key this.primary this.uniques this.orders
    view.place view.listed
    view.cells_of (rows_of t) (view.held t) (view.here t) old.now holds.rows nth ps is.unique
    is.order (are_keys at) is.keyed is.are

abbrev pub catalogue_view : View CatalogueRow
catalogue_view = view_of d.catalogue_table 1 catalogue_cells (λ t. t.catalogue) refl (λ t. refl)

pub catalogue_apart : StandApart catalogue_view (0 ∷ [])
catalogue_apart = apart_by_rowid catalogue_view

abbrev pub rule_view : View RuleRow
rule_view = view_of d.rule_table 2 rule_cells (λ t. t.rule) refl (λ t. refl)

pub rule_apart : StandApart rule_view (1 ∷ 2 ∷ 3 ∷ [])
rule_apart = apart_by_key rule_view 0 (1 ∷ 2 ∷ 3 ∷ []) (0 ∷ 1 ∷ 2 ∷ []) assumption

abbrev pub document_view : View DocumentRow
document_view = view_of d.document_table 3 document_cells (λ t. t.document) refl (λ t. refl)

pub document_apart : StandApart document_view (0 ∷ [])
document_apart = apart_by_rowid document_view

-- nor the same namespace
pub namespace_apart : StandApart document_view (2 ∷ [])
namespace_apart = apart_by_key document_view 0 (2 ∷ []) (1 ∷ []) assumption

abbrev pub reading_view : View DocumentRow
reading_view = view_of d.reading_table 14 reading_cells (λ t. t.document) refl (λ t. refl)

pub reading_apart : StandApart reading_view (0 ∷ [])
reading_apart = apart_by_rowid reading_view

abbrev pub package_view : View PackageRow
package_view = view_of d.package_table 4 package_cells (λ t. t.packages) refl (λ t. refl)

pub package_apart : StandApart package_view (1 ∷ 2 ∷ [])
package_apart = apart_by_key package_view 0 (1 ∷ 2 ∷ []) (0 ∷ 1 ∷ []) assumption

abbrev pub extracted_view : View ExtractedRow
extracted_view = view_of d.extracted_table 5 extracted_cells (λ t. t.extracted) refl (λ t. refl)

pub extracted_apart : StandApart extracted_view (1 ∷ 2 ∷ [])
extracted_apart = apart_by_key extracted_view 0 (1 ∷ 2 ∷ []) (0 ∷ 1 ∷ []) assumption

abbrev pub conclusion_view : View ConclusionRow
conclusion_view = view_of d.conclusion_table 6 conclusion_cells (λ t. t.conclusion) refl (λ t. refl)

pub conclusion_apart : StandApart conclusion_view (1 ∷ 2 ∷ [])
conclusion_apart = apart_by_key conclusion_view 0 (1 ∷ 2 ∷ []) (0 ∷ 1 ∷ []) assumption

abbrev pub adoption_view : View AdoptionRow
adoption_view = view_of d.adoption_table 7 adoption_cells (λ t. t.adoption) refl (λ t. refl)

pub adoption_apart : StandApart adoption_view (1 ∷ 2 ∷ [])
adoption_apart = apart_by_key adoption_view 0 (1 ∷ 2 ∷ []) (0 ∷ 1 ∷ []) assumption

abbrev pub release_view : View ReleaseRow
release_view = view_of d.releases_table 8 release_cells (λ t. t.releases) refl (λ t. refl)

pub release_apart : StandApart release_view (1 ∷ [])
release_apart = apart_by_key release_view 1 (1 ∷ []) (0 ∷ []) assumption

abbrev pub attached_view : View AttachedRow
attached_view = view_of d.attached_table 9 attached_cells (λ t. t.attached) refl (λ t. refl)

pub attached_apart : StandApart attached_view (1 ∷ 2 ∷ [])
attached_apart = apart_by_key attached_view 0 (1 ∷ 2 ∷ []) (0 ∷ 1 ∷ []) assumption

abbrev pub choice_view : View ChoiceRow
choice_view = view_of d.choice_table 10 choice_cells (λ t. t.choice) refl (λ t. refl)

pub choice_apart : StandApart choice_view (1 ∷ 2 ∷ 3 ∷ 4 ∷ [])
choice_apart = apart_by_key choice_view 0 (1 ∷ 2 ∷ 3 ∷ 4 ∷ []) (0 ∷ 1 ∷ 2 ∷ 3 ∷ []) assumption

abbrev pub frozen_view : View FrozenRow
frozen_view = view_of d.frozen_table 11 frozen_cells (λ t. t.frozen) refl (λ t. refl)

pub frozen_apart : StandApart frozen_view (1 ∷ 2 ∷ 3 ∷ 4 ∷ [])
frozen_apart = apart_by_key frozen_view 0 (1 ∷ 2 ∷ 3 ∷ 4 ∷ []) (0 ∷ 1 ∷ 2 ∷ 3 ∷ []) assumption

abbrev pub duty_view : View DutyRow
duty_view = view_of d.duty_table 12 duty_cells (λ t. t.duty) refl (λ t. refl)

pub duty_apart : StandApart duty_view (0 ∷ [])
duty_apart = apart_by_rowid duty_view

abbrev pub change_view : View ChangeRow
change_view = view_of d.change_table 13 change_cells (λ t. t.changes) refl (λ t. refl)

pub change_apart : StandApart change_view (1 ∷ 2 ∷ [])
change_apart = apart_by_key change_view 0 (1 ∷ 2 ∷ []) (0 ∷ 1 ∷ []) assumption

abbrev pub waiver_view : View ChangeRow
waiver_view = view_of d.waiver_table 15 waiver_cells (λ t. filter is_waiver t.changes) refl
    (λ t. refl)

pub waiver_apart : StandApart waiver_view (1 ∷ 2 ∷ [])
waiver_apart = apart_by_key waiver_view 0 (1 ∷ 2 ∷ []) (0 ∷ 1 ∷ []) assumption
