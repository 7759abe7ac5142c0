-- No two rows of a recorded history's tables have the same key.
use Rattle.std.proofs.Common.{◌≡◌, ℕ, List, map, sym, subst}
use Rattle.std.specs.List.{enumerate_from}
use Rattle.desk_model.specs.Answers.{IsHistory}
use Rattle.desk_model.specs.History.{documents, loaded, revisions}
use Rattle.desk_model.specs.Moves.{duty_row, place}
use Rattle.desk_model.specs.Raised.{raised}
use Rattle.desk_model.specs.Readings.{Readings}
use Rattle.desk_model.specs.Tables.{choices, tables}
use Rattle.desk_model.specs.declared.command.Command.{Command}
use Rattle.desk_model.specs.declared.row.CatalogueRow.{CatalogueRow}
use Rattle.desk_model.specs.declared.row.DocumentRow.{DocumentRow}
use Rattle.desk_model.specs.declared.row.DutyRow.{DutyRow}
use Rattle.desk_model.specs.declared.row.Owed.{Owed}
use Rattle.desk_history.specs.Laws.{AreDistinct, AreSortedAsListed, key_of, ListsInOrder, ListsOnce}
use Rattle.desk_history_laws.specs.Filters.{document_row, given, imported, revision_row}
use Rattle.desk_history_laws.specs.OwnKeys.{HaveOwnKeys}
use Rattle.desk_history_laws.proofs.Distinct.{distinct_adoptions, distinct_attached}
use Rattle.desk_history_laws.proofs.Distinct.{distinct_changes, distinct_choices}
use Rattle.desk_history_laws.proofs.Distinct.{distinct_conclusions, distinct_extracted}
use Rattle.desk_history_laws.proofs.Distinct.{distinct_frozen_terms, distinct_namespaces}
use Rattle.desk_history_laws.proofs.Distinct.{distinct_numbers, distinct_packages, distinct_places}
use Rattle.desk_history_laws.proofs.Distinct.{distinct_releases, distinct_rules}
use Rattle.desk_history_laws.proofs.HeldRows.{SetsRise, Stands}
use Rattle.desk_history_laws.proofs.Kept.{choices_rise, frozen_rises, WereHeld}

-- the laws on which these rest
pub record Laws : Type 0 where
  pub listed : (w : Readings) (h : List Command) → ListsInOrder w → AreSortedAsListed (tables w h)
  pub owed : (w : Readings) (h : List Command) → ListsOnce w → IsHistory w h → let t = tables w h in
      AreDistinct (map key_of t.duty)
  pub stands : Stands
  pub sets_rise : SetsRise
  pub were : WereHeld
  pub loads : (h : List Command)
      → revisions h ≡ map revision_row (enumerate_from 1 (given loaded h))
  pub imports : (w : Readings) (h : List Command)
      → documents w h ≡ map (document_row w) (enumerate_from 1 (given imported h))

pub own_keys : Laws → (w : Readings) → ListsInOrder w → ListsOnce w → (h : List Command)
    → IsHistory w h → HaveOwnKeys (tables w h)
own_keys laws w in_order once h ok =
    let listed = laws.listed w h in_order in
    record {
      revisions = subst (λ rows. AreDistinct (map (λ (row : CatalogueRow). row.revision) rows))
          (sym (laws.loads h)) (distinct_numbers (λ (row : CatalogueRow). row.revision) revision_row
          (λ d i. d.0) 1 (given loaded h));
      rules = distinct_rules _ listed.rule;
      documents = subst (λ rows. AreDistinct (map (λ (row : DocumentRow). row.number) rows))
          (sym (laws.imports w h)) (distinct_numbers (λ (row : DocumentRow). row.number)
          (document_row w) (λ d i. d.0) 1 (given imported h));
      namespaces = distinct_namespaces w h ok;
      packages = distinct_packages _ listed.packages;
      extracted = distinct_extracted _ listed.extracted;
      conclusions = distinct_conclusions h;
      adoptions = distinct_adoptions w h;
      releases = distinct_releases w h ok;
      places = distinct_places w h ok;
      attached = distinct_attached w h ok;
      choices = distinct_choices (choices w h) (choices_rise laws.stands laws.sets_rise w h);
      frozen = distinct_frozen_terms _ (frozen_rises laws.sets_rise laws.were w once.packages h ok);
      duties = distinct_numbers (λ (row : DutyRow). row.number)
          (λ (d : ℕ × Owed). duty_row (place w h d.0) d) (λ d i. d.0) 1 (raised w h);
      owed = laws.owed w h once ok;
      changes = distinct_changes w h;
    }
