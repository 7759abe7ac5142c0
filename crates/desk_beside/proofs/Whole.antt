-- The tables whose rows a sound snapshot has.
use Rattle.std.proofs.Common.{◌≡◌, ℕ, ℤ, pos, true, List, [], ◌∷◌, map, length, find, filter}
use Rattle.std.proofs.Common.{refl, sym, subst, ◌∙◌}
use Rattle.std.specs.Prelude.{flat_map, is_some}
use Rattle.std.specs.List.{list_all, list_any}
use Rattle.std.specs.Option.{option_and_then, option_map}
use Rattle.std.specs.Ordering.{int_eq}
use Rattle.std.specs.Result.{result_ok}
use Rattle.std.specs.Str.{bytes_eq}
use Rattle.std.proofs.lemmas.Bool.Decides.{Decides-int_eq}
use Rattle.desk_base.proofs.Bools.{and_left, and_right}
use Rattle.desk_history.proofs.Members.{from_flat_map, from_map, in_map}
use Rattle.desk_model.specs.History.{forms_in}
use Rattle.desk_model.specs.Keys.{is_revision}
use Rattle.desk_model.specs.Lists.{IsIn}
use Rattle.desk_model.specs.Names.{duty_state_named, release_state_named}
use Rattle.desk_model.specs.Readings.{Readings}
use Rattle.desk_model.specs.Tables.{Tables}
use Rattle.desk_model.proofs.Lists.{each_passes, one_passes}
use Rattle.desk_snapshot.specs.Changes.{AreChangesOf}
use Rattle.desk_snapshot.specs.Conditions.{AreChanges, AreChoices, AreDocuments, AreDuties, AreNumbered}
use Rattle.desk_snapshot.specs.Conditions.{AreRevisions}
use Rattle.desk_snapshot.specs.Conditions.{Owed, codes_in, is_choice, numbers_to, owed_by, owed_for}
use Rattle.desk_snapshot.specs.Conditions.{owed_of, rule_for}
use Rattle.desk_snapshot.specs.Reports.{IsReport}
use Rattle.desk_snapshot.specs.Rows.{is_attachment, is_change_of}
use Rattle.desk_snapshot.specs.Tables as t
use Rattle.desk_snapshot.specs.declared.fault.AuditFault.TheVariants as fault
use Rattle.desk_snapshot.specs.declared.fault.AuditReport.TheVariants.{Sound}
use Rattle.desk_snapshot.specs.declared.rows.StoredAttached.{StoredAttached}
use Rattle.desk_snapshot.specs.declared.rows.StoredCatalogue.{StoredCatalogue}
use Rattle.desk_snapshot.specs.declared.rows.StoredChoice.{StoredChoice}
use Rattle.desk_snapshot.specs.declared.rows.StoredDocument.{StoredDocument}
use Rattle.desk_snapshot.specs.declared.rows.StoredDuty.{StoredDuty}
use Rattle.desk_snapshot.specs.declared.rows.StoredFrozen.{StoredFrozen}
use Rattle.desk_snapshot.specs.declared.rows.StoredRelease.{StoredRelease}
use Rattle.desk_snapshot.specs.declared.rows.StoredRule.{StoredRule}
use Rattle.desk_snapshot.specs.declared.snapshot.Snapshot.{Snapshot}
use Rattle.desk_beside.specs.Beside.{HasNumbers, is_natural}
use Rattle.desk_beside.specs.Shown.{AreShown, HaveOwnSteps, rules_read}
use Rattle.desk_beside.proofs.Named.{state_moved}
use Rattle.desk_beside.proofs.Natural.{come_back, from_numbers, in_any_order, of_each, is_counted, size, size_is, size_of}
use Rattle.desk_beside.proofs.Steps.{are_told, change_back, change_read, waivers_back}
use Rattle.desk_beside.proofs.Taken as taken
use Rattle.desk_beside.proofs.Taken.{from_read}

-- ---- numbers

number_of : {A : Type 0} (number : A → ℤ) (xs : List A)
    → list_all (λ x. is_natural (number x)) xs ≡ true → (x : A) → IsIn x xs
    → pos (size (number x)) ≡ number x
number_of number xs all x there = size_is (number x)
    (each_passes (λ x. is_natural (number x)) x xs all there)

revisions : (w : Readings) (s : Snapshot) → AreRevisions w s → (y : StoredCatalogue)
    → IsIn y s.catalogue → pos (size y.revision) ≡ y.revision
revisions w s are y there =
    let at = from_numbers 1 _ are.numbered y.revision
    (in_map (λ (row : StoredCatalogue). row.revision) y s.catalogue there) in
    size_of y.revision at.0 at.1

documents : (w : Readings) (s : Snapshot) → AreDocuments w s → (y : StoredDocument)
    → IsIn y s.document → pos (size y.number) ≡ y.number
documents w s are y there =
    let at = from_numbers 1 _ are.numbered y.number
    (in_map (λ (row : StoredDocument). row.number) y s.document there) in
    size_of y.number at.0 at.1

duties : (s : Snapshot) → AreNumbered s → (y : StoredDuty) → IsIn y s.duty
    → pos (size y.number) ≡ y.number
duties s are y there =
    let at = from_numbers 1 _ are.numbered y.number
    (in_map (λ (row : StoredDuty). row.number) y s.duty there) in
    size_of y.number at.0 at.1

-- a choice is for an attached document
choices : (w : Readings) (s : Snapshot) → HasNumbers s → AreChoices w s → (y : StoredChoice)
    → IsIn y s.choice → pos (size y.document) ≡ y.document
choices w s numbers are y there =
    let held = each_passes (is_choice w s) y s.choice are.held there in
    let attached = one_passes (is_attachment y.release y.document) s.attached
    (and_left (list_any (is_attachment y.release y.document) s.attached) _ (and_right _ _ held)) in
    let row = attached.0 in
    let same = (Decides-int_eq row.document y.document).0
    (and_right (bytes_eq row.release y.release) (int_eq row.document y.document) attached.2) in
    subst (λ (m : ℤ). pos (size m) ≡ m) same
    (number_of (λ (row : StoredAttached). row.document) s.attached numbers.attached row attached.1)

places : (w : Readings) (s : Snapshot) → AreChoices w s → (y : StoredRelease) → IsIn y s.releases
    → pos (size y.place) ≡ y.place
places w s are y there = size_is y.place
    (in_any_order is_natural (numbers_to (length s.releases))
    (map (λ (row : StoredRelease). row.place) s.releases) are.places
    (λ m in_numbers. let at = from_map pos m _ in_numbers in
    subst (λ (m : ℤ). is_natural m ≡ true) at.2 (is_counted at.0))
    y.place (in_map (λ (row : StoredRelease). row.place) y s.releases there))

-- a duty is owed for a frozen term, so it is of the same document
owed_documents : (s : Snapshot) → HasNumbers s → AreDuties s → (y : StoredDuty) → IsIn y s.duty
    → pos (size y.document) ≡ y.document
owed_documents s numbers are y there = size_is y.document
    (in_any_order (λ (o : Owed). is_natural o.document) (flat_map (owed_by s) s.frozen)
    (map owed_of s.duty) are.owed
    (λ o in_owed. let of = from_flat_map (owed_by s) o s.frozen in_owed in
    let row : StoredFrozen = of.0 in
    let rule = from_read (λ (rule : StoredRule). map (owed_for row) (codes_in rule.codes))
    (rule_for s row) o of.2 in
    let code = from_map (owed_for row) o _ rule.1 in
    subst (λ (o : Owed). is_natural o.document ≡ true) code.2
    (each_passes (λ (row : StoredFrozen). is_natural row.document) row s.frozen numbers.frozen
    of.1))
    (owed_of y) (in_map owed_of y s.duty there))

states : (s : Snapshot) → AreChanges s → (y : StoredDuty) → IsIn y s.duty
    → is_some (duty_state_named y.state) ≡ true
states s are y there = state_moved s y.state (filter (is_change_of y.number) s.changes)
    (of_each (AreChangesOf s) s.duty are.of_each y there).moves

-- ---- the tables

module _ (w : Readings) (s : Snapshot) where
  abbrev forms : List (List ℕ)
  forms = forms_in (option_and_then (λ text. result_ok (w.catalogue text))
      (option_map (λ row. row.body)
      (find (is_revision (length (map taken.catalogue_row s.catalogue)))
      (map taken.catalogue_row s.catalogue))))

  abbrev tables : Tables
  tables = record {
    catalogue = map taken.catalogue_row s.catalogue;
    forms = forms;
    rule = flat_map (rules_read w) (map taken.catalogue_row s.catalogue);
    document = taken.documents_read s.document s.reading;
    packages = map taken.package_read s.packages;
    extracted = map taken.extracted_read s.extracted;
    conclusion = map taken.conclusion_read s.conclusion;
    adoption = map taken.adoption_read s.adoption;
    releases = map taken.release_read s.releases;
    attached = map taken.attached_read s.attached;
    choice = map taken.choice_read s.choice;
    frozen = map taken.frozen_read s.frozen;
    duty = map taken.duty_read s.duty;
    changes = map (change_read s.waiver) s.changes;
  }

  module _ (sound : IsReport w s Sound) (numbers : HasNumbers s) (own : HaveOwnSteps s) where
    catalogues : map t.catalogue_stored tables.catalogue ≡ s.catalogue
    catalogues = come_back t.catalogue_stored taken.catalogue_row s.catalogue
        (λ y there. taken.catalogue_back y (revisions w s (sound fault.BadRevision) y there))

    rules : map t.rule_stored tables.rule ≡ s.rule
    rules = taken.rules_back w s.catalogue (revisions w s (sound fault.BadRevision))
        ∙ sym (sound fault.BadRule)

    both : (map t.document_stored tables.document ≡ s.document)
        × (map t.reading_stored tables.document ≡ s.reading)
    both = let are = sound fault.BadDocument in
        taken.documents_back s.document s.reading are.profiled (documents w s are) are.profiles

    package_rows : map t.package_stored tables.packages ≡ s.packages
    package_rows = let are = sound fault.BadPackage in
        come_back t.package_stored taken.package_read s.packages
        (λ y there. taken.package_back w s.document (documents w s (sound fault.BadDocument)) y
        (subst (λ ys. IsIn y ys) are.all there))

    extracted_rows : map t.extracted_stored tables.extracted ≡ s.extracted
    extracted_rows = let are = sound fault.BadPackage in
        come_back t.extracted_stored taken.extracted_read s.extracted
        (λ y there. taken.extracted_back w s.document (documents w s (sound fault.BadDocument)) y
        (subst (λ ys. IsIn y ys) are.extracted there))

    conclusion_rows : map t.conclusion_stored tables.conclusion ≡ s.conclusion
    conclusion_rows = come_back t.conclusion_stored taken.conclusion_read s.conclusion
        (λ y there. taken.conclusion_back y
        (number_of (λ row. row.document) s.conclusion numbers.conclusions y there))

    adoption_rows : map t.adoption_stored tables.adoption ≡ s.adoption
    adoption_rows = come_back t.adoption_stored taken.adoption_read s.adoption
        (λ y there. taken.adoption_back y
        (number_of (λ row. row.document) s.adoption numbers.adoptions y there))

    release_rows : map t.release_stored tables.releases ≡ s.releases
    release_rows = let are = sound fault.BadState in
        come_back t.release_stored taken.release_read s.releases
        (λ y there. taken.release_back y (places w s (sound fault.BadChoice) y there)
        (each_passes (λ (row : StoredRelease). is_some (release_state_named row.state)) y s.releases
        are.releases there)
        (number_of (λ row. row.revision) s.releases numbers.revisions y there))

    attached_rows : map t.attached_stored tables.attached ≡ s.attached
    attached_rows = come_back t.attached_stored taken.attached_read s.attached
        (λ y there. taken.attached_back y
        (number_of (λ row. row.document) s.attached numbers.attached y there))

    choice_rows : map t.choice_stored tables.choice ≡ s.choice
    choice_rows = come_back t.choice_stored taken.choice_read s.choice
        (λ y there. taken.choice_back y (choices w s numbers (sound fault.BadChoice) y there))

    frozen_rows : map t.frozen_stored tables.frozen ≡ s.frozen
    frozen_rows = come_back t.frozen_stored taken.frozen_read s.frozen
        (λ y there. taken.frozen_back y
        (number_of (λ row. row.document) s.frozen numbers.frozen y there))

    duty_rows : map t.duty_stored tables.duty ≡ s.duty
    duty_rows = come_back t.duty_stored taken.duty_read s.duty
        (λ y there. taken.duty_back y (duties s (sound fault.BadNumber) y there)
        (owed_documents s numbers (sound fault.BadDuty) y there)
        (states s (sound fault.BadChange) y there))

    change_rows : map t.change_stored tables.changes ≡ s.changes
    change_rows = come_back t.change_stored (change_read s.waiver) s.changes
        (λ y there. change_back s.waiver y
        (are_told s (sound fault.BadNumber) (sound fault.BadChange) y there))

    same : t.snapshot_of tables ≡ s
    same =
        let meta : s.meta ≡ record { version = pos 3 } ∷ [] = sound fault.BadMeta in
        let waivers = waivers_back s (sound fault.BadNumber) (sound fault.BadChange) own.changes
        own.waivers in
        λ i. record {
          meta = sym meta i;
          catalogue = catalogues i;
          rule = rules i;
          document = both.0 i;
          reading = both.1 i;
          packages = package_rows i;
          extracted = extracted_rows i;
          conclusion = conclusion_rows i;
          adoption = adoption_rows i;
          releases = release_rows i;
          attached = attached_rows i;
          choice = choice_rows i;
          frozen = frozen_rows i;
          duty = duty_rows i;
          changes = change_rows i;
          waiver = waivers i;
        }

    pub are_shown : (t : Tables) × AreShown w s t
    are_shown = (tables, record { rows = same; rules = refl; forms = refl })
