-- The revisions and their rules.
use Rattle.std.proofs.Common.{◌≡◌, ℕ, ◌+◌, true, List, [], ◌∷◌, ◌++◌, length, map, refl, ap, ◌∙◌, sym}
use Rattle.std.specs.Prelude.{pos, IsTrue, is_some, Result, Ok, Err}
use Rattle.std.specs.List.{list_all, flat_map}
use Rattle.std.specs.Result.{result_ok}
use Rattle.std.proofs.lemmas.List.{map-append}
use Rattle.std.proofs.lemmas.List.Folds.{list_all-append}
use Rattle.std.proofs.lemmas.Simd.{map-map}
use Rattle.desk_model.specs.Readings.{Readings}
use Rattle.desk_model.specs.History.{revisions, rules_in, rule_row, rule_rows}
use Rattle.desk_model.specs.Answers.{IsHistory, is_recorded, Loading, load_answer, loading}
use Rattle.desk_model.specs.Tables.{tables}
use Rattle.desk_model.specs.declared.reading.Catalogue.{Catalogue}
use Rattle.desk_model.specs.declared.reading.Rule.{Rule}
use Rattle.desk_model.specs.declared.refusal.CatalogueFault.{CatalogueFault}
use Rattle.desk_model.specs.declared.row.CatalogueRow.{CatalogueRow}
use Rattle.desk_model.specs.declared.command.Command.{Command}
use Rattle.desk_model.specs.declared.command.Command.TheVariants.{LoadCatalogue}
use Rattle.desk_snapshot.specs.Conditions.{AreRevisions, AreRules, rules_by, stored_rule}
use Rattle.desk_snapshot.specs.Rows.{AreFrom}
use Rattle.desk_snapshot.specs.Tables.{snapshot_of, catalogue_stored, rule_stored}
use Rattle.desk_snapshot.specs.declared.rows.StoredCatalogue.{StoredCatalogue}
use Rattle.desk_history_laws.proofs.Numbered.{flat_map-push, rows_push}

abbrev row_of : List Command → List ℕ → CatalogueRow
row_of h text = record { revision = length (revisions h) + 1; body = text }

numbered : (h : List Command)
    → AreFrom 1 (map (λ (row : StoredCatalogue). row.revision) (map catalogue_stored (revisions h)))
numbered h = rw (map-map (λ (row : StoredCatalogue). row.revision) catalogue_stored (revisions h))
    (rows h)
  where
    rows : (h : List Command) → AreFrom 1
        (map (λ (row : CatalogueRow). pos row.revision) (revisions h))
    rows [] = tt
    rows (LoadCatalogue text ∷ h) = rows_push (λ (row : CatalogueRow). pos row.revision)
        (revisions h) (row_of h text) (rows h) refl
    rows (_ ∷ h) = rows h

pub was_read : (r : Result Catalogue CatalogueFault) (found : Loading)
    → IsTrue (is_recorded (load_answer r found)) → is_some (result_ok r) ≡ true
was_read (Ok c) found e = refl
was_read (Err f) found e = cc

read : (w : Readings) (h : List Command) → IsHistory w h
    → list_all (λ (row : StoredCatalogue). is_some (result_ok (w.catalogue row.body)))
    (map catalogue_stored (revisions h)) ≡ true
read w [] ok = refl
read w (LoadCatalogue text ∷ h) ok =
    let test = λ (row : StoredCatalogue). is_some (result_ok (w.catalogue row.body)) in
    ap (list_all test) (map-append catalogue_stored (revisions h) (row_of h text ∷ []))
    ∙ (list_all-append test (map catalogue_stored (revisions h))
    (catalogue_stored (row_of h text) ∷ [])
    ∙ rw (read w h ok.1, was_read (w.catalogue text) (loading h) ok.0) refl)
read w (_ ∷ h) ok = read w h ok.1

pub are_revisions : (w : Readings) (h : List Command) → IsHistory w h
    → AreRevisions w (snapshot_of (tables w h))
are_revisions w h ok = record { numbered = numbered h; read = read w h ok }

rules_stored : (n : ℕ) (rules : List Rule)
    → map rule_stored (map (rule_row n) rules) ≡ map (stored_rule (pos n)) rules
rules_stored n [] = refl
rules_stored n (rule ∷ rules) = ap (λ rows. stored_rule (pos n) rule ∷ rows) (rules_stored n rules)

pub are_rules : (w : Readings) (h : List Command) → AreRules w (snapshot_of (tables w h))
are_rules w [] = refl
are_rules w (LoadCatalogue text ∷ h) =
    let row = row_of h text in
    let rules = rules_in (result_ok (w.catalogue text)) in
    map-append rule_stored (rule_rows w h) (map (rule_row (length (revisions h) + 1)) rules)
    ∙ (ap (λ rows. rows ++ map rule_stored (map (rule_row (length (revisions h) + 1)) rules))
    (are_rules w h)
    ∙ (ap (λ rows. flat_map (rules_by w) (map catalogue_stored (revisions h)) ++ rows)
    (rules_stored (length (revisions h) + 1) rules)
    ∙ (sym (flat_map-push (rules_by w) (map catalogue_stored (revisions h)) (catalogue_stored row))
    ∙ ap (flat_map (rules_by w)) (sym (map-append catalogue_stored (revisions h) (row ∷ []))))))
are_rules w (_ ∷ h) = are_rules w h
