-- A database with sound rows holds the tables that have these rows.
use Rattle.std.proofs.Common.{◌≡◌, ℕ, Bool, true, false, List, [], ◌∷◌, map, filter, Option, Some}
use Rattle.std.proofs.Common.{None, refl, sym, ap₂, subst}
use Rattle.std.specs.Prelude.{◌==◌, is_some, unwrap_or, if◌then◌else◌}
use Rattle.sqlite_value.specs.declared.value.Value.TheVariants.{Text}
use Rattle.sqlite_trees.proofs.ListLemmas.{map-map}
use Rattle.sqlite.specs.Effect.{Database, IsDatabase}
use Rattle.sqlite.specs.State.{State}
use Rattle.desk_model.specs.Moves.{is_waiver}
use Rattle.desk_model.specs.Readings.{Readings}
use Rattle.desk_model.specs.Tables.{Tables}
use Rattle.desk_model.specs.declared.row.ChangeRow.{ChangeRow}
use Rattle.desk_snapshot.specs.Reports.{IsReport}
use Rattle.desk_snapshot.specs.Tables as s
use Rattle.desk_snapshot.specs.Tables.{snapshot_of}
use Rattle.desk_snapshot.specs.declared.fault.AuditReport.TheVariants.{Sound}
use Rattle.desk_snapshot.specs.declared.snapshot.Snapshot.{Snapshot}
use Rattle.desk_sql_layout.specs.Cells as c
use Rattle.desk_sql_layout.specs.Desk.{HasDesk}
use Rattle.desk_sql_layout.specs.Held.{HasRows, Holds, Showing, labelled, rows_of}
use Rattle.desk_sql_layout.specs.Layout as d
use Rattle.desk_sql_scan.specs.Cells as scan
use Rattle.desk_sql_scan.specs.Scans.{AreTables, IsSnapshot, stored_rows}
use Rattle.desk_sql_scan.proofs.Holding.{has_rows}
use Rattle.desk_beside.specs.Beside.{HasNumbers}
use Rattle.desk_beside.specs.Shown.{AreShown, HaveOwnSteps}
use Rattle.desk_history_laws.specs.Ids.{ListsIds}
use Rattle.desk_texts.specs.Right.{AreRight}
use Rattle.desk_store.specs.Adopting.{HasForms}
use Rattle.desk_store.specs.Auditing.{IsSoundDesk}
use Rattle.desk_store.proofs.Orderly.{are_orderly}
use Rattle.desk_store.proofs.OwnSteps.{own_steps}

-- ---- rows as cells

last_day_cells : (rows : List ChangeRow)
    → map scan.stored_waiver_cells (map s.waiver_stored (filter is_waiver rows))
    ≡ map c.waiver_cells (filter is_waiver rows)
last_day_cells [] = refl
last_day_cells (x ∷ xs) = go (last_day_cells xs) (is_waiver x) refl
  where
    one : (day : Option (List ℕ)) → is_some day ≡ true
        → Text (unwrap_or day []) ≡ c.text_or_null day
    one None is = absurd (cc)
    one (Some day) is = refl

    go : map scan.stored_waiver_cells (map s.waiver_stored (filter is_waiver xs))
        ≡ map c.waiver_cells (filter is_waiver xs) → (b : Bool) → is_waiver x ≡ b
        → map scan.stored_waiver_cells (map s.waiver_stored (filter is_waiver (x ∷ xs)))
        ≡ map c.waiver_cells (filter is_waiver (x ∷ xs))
    go more true is = rw is (ap₂ (λ a l. (c.number x.duty ∷ c.number x.step ∷ a ∷ []) ∷ l)
        (one x.last_day is) more)
    go more false is = rw is more

module _ (t : Tables) where
  cells_same : stored_rows (snapshot_of t) ≡ rows_of t
  cells_same =
      let catalogue = map-map scan.stored_catalogue_cells s.catalogue_stored t.catalogue in
      let rule = map-map scan.stored_rule_cells s.rule_stored t.rule in
      let document = map-map scan.stored_document_cells s.document_stored t.document in
      let packages = map-map scan.stored_package_cells s.package_stored t.packages in
      let extracted = map-map scan.stored_extracted_cells s.extracted_stored t.extracted in
      let conclusion = map-map scan.stored_conclusion_cells s.conclusion_stored t.conclusion in
      let adoption = map-map scan.stored_adoption_cells s.adoption_stored t.adoption in
      let releases = map-map scan.stored_release_cells s.release_stored t.releases in
      let attached = map-map scan.stored_attached_cells s.attached_stored t.attached in
      let choice = map-map scan.stored_choice_cells s.choice_stored t.choice in
      let frozen = map-map scan.stored_frozen_cells s.frozen_stored t.frozen in
      let duty = map-map scan.stored_duty_cells s.duty_stored t.duty in
      let changes = map-map scan.stored_change_cells s.change_stored t.changes in
      let reading = map-map scan.stored_reading_cells s.reading_stored t.document in
      let waivers = last_day_cells t.changes in
      λ i tree.
      if tree == d.meta_table.tree then c.meta_cells ∷ []
      else (if tree == d.catalogue_table.tree then catalogue i
      else (if tree == d.rule_table.tree then rule i
      else (if tree == d.document_table.tree then document i
      else (if tree == d.package_table.tree then packages i
      else (if tree == d.extracted_table.tree then extracted i
      else (if tree == d.conclusion_table.tree then conclusion i
      else (if tree == d.adoption_table.tree then adoption i
      else (if tree == d.releases_table.tree then releases i
      else (if tree == d.attached_table.tree then attached i
      else (if tree == d.choice_table.tree then choice i
      else (if tree == d.frozen_table.tree then frozen i
      else (if tree == d.duty_table.tree then duty i
      else (if tree == d.change_table.tree then changes i
      else (if tree == d.reading_table.tree then reading i
      else waivers i))))))))))))))

-- ---- the tables

module _ (db : Database) (declared : HasDesk db.schema) (database : IsDatabase db)
    (stand : AreTables d.desk_schema (labelled db)) where
  steps_shown : (s : Snapshot) → IsSnapshot s db → HaveOwnSteps s
  steps_shown s it = own_steps s db (has_rows s db declared database stand it) it

  held_as_shown : (w : Readings) → ListsIds w → (s : Snapshot) → IsSnapshot s db
      → IsReport w s Sound → (t : Tables) → AreShown w s t → Holds t db
  held_as_shown w ids s it sound t shown =
      let own = subst (λ s. IsSnapshot s db) (sym shown.rows) it in
      let right = subst (λ s. IsReport w s Sound) (sym shown.rows) sound in
      record {
        rows = subst (λ rows. HasRows rows db) (cells_same t)
            (has_rows (snapshot_of t) db declared database stand own);
        orderly = are_orderly w t right db own ids shown.rules;
      }

-- a connection that shows sound rows shows some tables
pub some_shown : (s : State) → HasDesk s.now.schema → IsDatabase s.now
    → s.committed ≡ s.now → IsSoundDesk s → AreTables d.desk_schema (labelled s.now)
    → ((w : Readings) (rows : Snapshot) → IsReport w rows Sound → HasNumbers rows
    → HaveOwnSteps rows → (t : Tables) × AreShown w rows t)
    → (w : Readings) → AreRight w → ListsIds w → (t : Tables) × Showing s t × HasForms w t
some_shown s declared database settled (rows, has, numbers, sound) stand law w right ids =
    let own = steps_shown s.now declared database stand rows has in
    let found = law w rows (sound w right) numbers own in
    let holds = held_as_shown s.now declared database stand w ids rows has (sound w right) found.0
    found.1 in
    (found.0, record { holds = holds; settled = settled }, found.1.forms)
