-- Rows as a desk has them, taken from stored ones, and that these come back.
use Rattle.std.proofs.Common.{◌≡◌, inl, inr, ℤ, pos, Bool, true, false, List, [], ◌∷◌, ◌++◌, map}
use Rattle.std.proofs.Common.{Option, Some, None, refl, sym, ap, ap₂, subst, ◌∙◌}
use Rattle.std.specs.Prelude.{is_some, unwrap_or, flat_map, if◌then◌else◌}
use Rattle.std.specs.List.{list_all}
use Rattle.std.specs.Option.{option_map_or}
use Rattle.std.specs.Ordering.{int_eq}
use Rattle.std.specs.Result.{result_ok}
use Rattle.std.proofs.lemmas.List.{map-append}
use Rattle.std.proofs.lemmas.Simd.{map-map}
use Rattle.desk_base.proofs.Bools.{and_left, and_right}
use Rattle.desk_history.proofs.Members.{from_flat_map, from_map}
use Rattle.desk_model.specs.History.{rules_in}
use Rattle.desk_model.specs.Lists.{IsIn}
use Rattle.desk_model.specs.Names.{duty_state_named, release_state_named, duty_state_name}
use Rattle.desk_model.specs.Names.{release_state_name}
use Rattle.desk_model.specs.Readings.{Readings}
use Rattle.desk_model.specs.declared.reading.Document.{Document}
use Rattle.desk_model.specs.declared.reading.Package.{Package}
use Rattle.desk_model.specs.declared.reading.Reference.{Reference}
use Rattle.desk_model.specs.declared.row.AdoptionRow.{AdoptionRow}
use Rattle.desk_model.specs.declared.row.AttachedRow.{AttachedRow}
use Rattle.desk_model.specs.declared.row.CatalogueRow.{CatalogueRow}
use Rattle.desk_model.specs.declared.row.ChoiceRow.{ChoiceRow}
use Rattle.desk_model.specs.declared.row.ConclusionRow.{ConclusionRow}
use Rattle.desk_model.specs.declared.row.DocumentRow.{DocumentRow}
use Rattle.desk_model.specs.declared.row.DutyRow.{DutyRow}
use Rattle.desk_model.specs.declared.row.ExtractedRow.{ExtractedRow}
use Rattle.desk_model.specs.declared.row.FrozenRow.{FrozenRow}
use Rattle.desk_model.specs.declared.row.PackageRow.{PackageRow}
use Rattle.desk_model.specs.declared.row.ReleaseRow.{ReleaseRow}
use Rattle.desk_model.specs.declared.state.DutyState.TheVariants as duty
use Rattle.desk_model.specs.declared.state.ReleaseState.TheVariants as release
use Rattle.desk_snapshot.specs.Conditions.{extracted_by, is_profile, packages_by, profile_of}
use Rattle.desk_snapshot.specs.Conditions.{rules_by, stored_extracted, stored_package}
use Rattle.desk_snapshot.specs.Tables as t
use Rattle.desk_snapshot.specs.declared.rows.StoredAdoption.{StoredAdoption}
use Rattle.desk_snapshot.specs.declared.rows.StoredAttached.{StoredAttached}
use Rattle.desk_snapshot.specs.declared.rows.StoredCatalogue.{StoredCatalogue}
use Rattle.desk_snapshot.specs.declared.rows.StoredChoice.{StoredChoice}
use Rattle.desk_snapshot.specs.declared.rows.StoredConclusion.{StoredConclusion}
use Rattle.desk_snapshot.specs.declared.rows.StoredDocument.{StoredDocument}
use Rattle.desk_snapshot.specs.declared.rows.StoredDuty.{StoredDuty}
use Rattle.desk_snapshot.specs.declared.rows.StoredExtracted.{StoredExtracted}
use Rattle.desk_snapshot.specs.declared.rows.StoredFrozen.{StoredFrozen}
use Rattle.desk_snapshot.specs.declared.rows.StoredPackage.{StoredPackage}
use Rattle.desk_snapshot.specs.declared.rows.StoredReading.{StoredReading}
use Rattle.desk_snapshot.specs.declared.rows.StoredRelease.{StoredRelease}
use Rattle.desk_beside.specs.Shown.{rules_read}
use Rattle.desk_beside.proofs.Named.{has_name, profile_back}
use Rattle.desk_beside.proofs.Natural.{size}

-- ---- catalogues

abbrev pub catalogue_row : StoredCatalogue → CatalogueRow
catalogue_row y = record { revision = size y.revision; body = y.body }

pub catalogue_back : (y : StoredCatalogue) → pos (size y.revision) ≡ y.revision
    → t.catalogue_stored (catalogue_row y) ≡ y
catalogue_back y is = λ i. record { revision = is i; body = y.body }

pub rules_back : (w : Readings) (ys : List StoredCatalogue)
    → ((y : StoredCatalogue) → IsIn y ys → pos (size y.revision) ≡ y.revision)
    → map t.rule_stored (flat_map (rules_read w) (map catalogue_row ys)) ≡ flat_map (rules_by w) ys
rules_back w [] are = refl
rules_back w (y ∷ ys) are =
    map-append t.rule_stored (rules_read w (catalogue_row y))
    (flat_map (rules_read w) (map catalogue_row ys))
    ∙ ap₂ (λ us vs. us ++ vs) one (rules_back w ys (λ z there. are z (inr there)))
  where
    one : map t.rule_stored (rules_read w (catalogue_row y)) ≡ rules_by w y
    one = map-map t.rule_stored _ (rules_in (result_ok (w.catalogue y.body)))
        ∙ ap (λ (n : ℤ). rules_by w (record { revision = n; body = y.body })) (are y (inl refl))

-- ---- documents

abbrev pub documents_read : List StoredDocument → List StoredReading → List DocumentRow
documents_read [] rs = []
documents_read (y ∷ ys) [] = []
documents_read (y ∷ ys) (r ∷ rs) = record {
  number = size y.number;
  namespace = y.namespace;
  bytes = y.bytes;
  profile = profile_of r;
} ∷ documents_read ys rs

pub documents_back : (ys : List StoredDocument) (rs : List StoredReading)
    → map (λ (r : StoredReading). r.document) rs ≡ map (λ (y : StoredDocument). y.number) ys
    → ((y : StoredDocument) → IsIn y ys → pos (size y.number) ≡ y.number)
    → list_all is_profile rs ≡ true
    → (map t.document_stored (documents_read ys rs) ≡ ys)
    × (map t.reading_stored (documents_read ys rs) ≡ rs)
documents_back [] [] same are profiles = (refl, refl)
documents_back [] (r ∷ rs) same are profiles = absurd (cc)
documents_back (y ∷ ys) [] same are profiles = absurd (cc)
documents_back (y ∷ ys) (r ∷ rs) same are profiles =
    let one : r.document ≡ y.number = cc in
    let rest : map (λ (r : StoredReading). r.document) rs
    ≡ map (λ (y : StoredDocument). y.number) ys = cc in
    let more = documents_back ys rs rest (λ z there. are z (inr there))
    (and_right (is_profile r) (list_all is_profile rs) profiles) in
    let number = are y (inl refl) in
    let profile = profile_back r (and_left (is_profile r) (list_all is_profile rs) profiles) in
    let document = number ∙ sym one in (
      λ i. record { number = number i; namespace = y.namespace; bytes = y.bytes } ∷ more.0 i,
      λ i. record { document = document i; profile = profile i } ∷ more.1 i,
    )

-- what is taken of a document that was read
pub from_read : {A B : Type 0} (f : A → List B) (o : Option A) (z : B)
    → IsIn z (option_map_or f o []) → (x : A) × IsIn z (f x)
from_read f None z there = absurd there
from_read f (Some x) z there = (x, there)

abbrev pub package_read : StoredPackage → PackageRow
package_read y = record {
  document = size y.document;
  id = y.id;
  name = y.name;
  version = y.version;
  concluded = y.concluded;
  copyright = y.copyright;
  shipped = int_eq y.shipped (pos 1);
}

ships : (b : Bool) → pos (if int_eq (pos (if b then 1 else 0)) (pos 1) then 1 else 0)
    ≡ pos (if b then 1 else 0)
ships true = refl
ships false = refl

package_own : (n : ℤ) (p : Package) → pos (size n) ≡ n
    → t.package_stored (package_read (stored_package n p)) ≡ stored_package n p
package_own n p is =
    let shipped = ships p.shipped in
    λ i. record {
      document = is i;
      id = p.id;
      name = p.name;
      version = p.version;
      concluded = p.concluded;
      copyright = p.copyright;
      shipped = shipped i;
    }

pub package_back : (w : Readings) (ys : List StoredDocument)
    → ((y : StoredDocument) → IsIn y ys → pos (size y.number) ≡ y.number) → (z : StoredPackage)
    → IsIn z (flat_map (packages_by w) ys) → t.package_stored (package_read z) ≡ z
package_back w ys are z there =
    let of = from_flat_map (packages_by w) z ys there in
    let own = from_read (λ (d : Document). map (stored_package of.0.number) d.packages) _ z of.2 in
    let p = from_map (stored_package of.0.number) z own.0.packages own.1 in
    subst (λ (z : StoredPackage). t.package_stored (package_read z) ≡ z) p.2
    (package_own of.0.number p.0 (are of.0 of.1))

abbrev pub extracted_read : StoredExtracted → ExtractedRow
extracted_read y = record { document = size y.document; reference = y.reference; body = y.body }

extracted_own : (n : ℤ) (r : Reference) → pos (size n) ≡ n
    → t.extracted_stored (extracted_read (stored_extracted n r)) ≡ stored_extracted n r
extracted_own n r is = λ i. record { document = is i; reference = r.id; body = r.body }

pub extracted_back : (w : Readings) (ys : List StoredDocument)
    → ((y : StoredDocument) → IsIn y ys → pos (size y.number) ≡ y.number) → (z : StoredExtracted)
    → IsIn z (flat_map (extracted_by w) ys) → t.extracted_stored (extracted_read z) ≡ z
extracted_back w ys are z there =
    let of = from_flat_map (extracted_by w) z ys there in
    let own = from_read (λ (d : Document). map (stored_extracted of.0.number) d.references) _ z
    of.2 in
    let r = from_map (stored_extracted of.0.number) z own.0.references own.1 in
    subst (λ (z : StoredExtracted). t.extracted_stored (extracted_read z) ≡ z) r.2
    (extracted_own of.0.number r.0 (are of.0 of.1))

-- ---- the office, and releases

abbrev pub conclusion_read : StoredConclusion → ConclusionRow
conclusion_read y = record {
  document = size y.document;
  package_id = y.package_id;
  expression = y.expression;
}

pub conclusion_back : (y : StoredConclusion) → pos (size y.document) ≡ y.document
    → t.conclusion_stored (conclusion_read y) ≡ y
conclusion_back y is = λ i. record {
  document = is i;
  package_id = y.package_id;
  expression = y.expression;
}

abbrev pub adoption_read : StoredAdoption → AdoptionRow
adoption_read y = record {
  document = size y.document;
  reference = y.reference;
  licence = y.licence;
}

pub adoption_back : (y : StoredAdoption) → pos (size y.document) ≡ y.document
    → t.adoption_stored (adoption_read y) ≡ y
adoption_back y is = λ i. record {
  document = is i;
  reference = y.reference;
  licence = y.licence;
}

abbrev pub release_read : StoredRelease → ReleaseRow
release_read y = record {
  name = y.name;
  place = size y.place;
  form = y.form;
  state = unwrap_or (release_state_named y.state) release.IsOpen;
  revision = size y.revision;
}

pub release_back : (y : StoredRelease) → pos (size y.place) ≡ y.place
    → is_some (release_state_named y.state) ≡ true → pos (size y.revision) ≡ y.revision
    → t.release_stored (release_read y) ≡ y
release_back y place named revision =
    let state = has_name release_state_name
    (release.IsOpen ∷ release.Frozen ∷ release.Withdrawn ∷ []) release.IsOpen y.state named in
    λ i. record {
      name = y.name;
      place = place i;
      form = y.form;
      state = state i;
      revision = revision i;
    }

abbrev pub attached_read : StoredAttached → AttachedRow
attached_read y = record { release = y.release; document = size y.document }

pub attached_back : (y : StoredAttached) → pos (size y.document) ≡ y.document
    → t.attached_stored (attached_read y) ≡ y
attached_back y is = λ i. record { release = y.release; document = is i }

abbrev pub choice_read : StoredChoice → ChoiceRow
choice_read y = record {
  release = y.release;
  document = size y.document;
  package_id = y.package_id;
  term = y.term;
}

pub choice_back : (y : StoredChoice) → pos (size y.document) ≡ y.document
    → t.choice_stored (choice_read y) ≡ y
choice_back y is = λ i. record {
  release = y.release;
  document = is i;
  package_id = y.package_id;
  term = y.term;
}

abbrev pub frozen_read : StoredFrozen → FrozenRow
frozen_read y = record {
  release = y.release;
  document = size y.document;
  package_id = y.package_id;
  term = y.term;
  rule = y.rule;
}

pub frozen_back : (y : StoredFrozen) → pos (size y.document) ≡ y.document
    → t.frozen_stored (frozen_read y) ≡ y
frozen_back y is = λ i. record {
  release = y.release;
  document = is i;
  package_id = y.package_id;
  term = y.term;
  rule = y.rule;
}

-- ---- duties

abbrev pub duty_read : StoredDuty → DutyRow
duty_read y = record {
  number = size y.number;
  release = y.release;
  document = size y.document;
  package_id = y.package_id;
  term = y.term;
  code = y.code;
  rule = y.rule;
  state = unwrap_or (duty_state_named y.state) duty.IsOpen;
}

pub duty_back : (y : StoredDuty) → pos (size y.number) ≡ y.number
    → pos (size y.document) ≡ y.document → is_some (duty_state_named y.state) ≡ true
    → t.duty_stored (duty_read y) ≡ y
duty_back y number document named =
    let state = has_name duty_state_name
    (duty.IsOpen ∷ duty.Met ∷ duty.Waived ∷ duty.Withdrawn ∷ []) duty.IsOpen y.state named in
    λ i. record {
      number = number i;
      release = y.release;
      document = document i;
      package_id = y.package_id;
      term = y.term;
      code = y.code;
      rule = y.rule;
      state = state i;
    }
