-- The ten conditions that the tables of a desk meet (schema version 3), each defined for a snapshot
-- whose lists are in the order of their tables' keys. What texts say is given by a reading
-- (`desk_model`): licence expressions by SPDX 2.3, Annex D, documents by its tag-value form,
-- catalogues by their own form.
use Rattle.std.specs.Prelude.{◌≡◌, ℕ, ℤ, pos, ◌&&◌, ◌||◌, not, nat_le, nat_lt, ◌==◌, Bool, true}
use Rattle.std.specs.Prelude.{false, List, [], ◌∷◌, length, map, filter, find, flat_map, Option}
use Rattle.std.specs.Prelude.{is_some, IsPermutation, if◌then◌else◌}
use Rattle.std.specs.List.{list_all, list_any, AllByRecursion, join_with_byte, range_with_len, slice_split}
use Rattle.std.specs.Option.{option_map, option_map_or, option_and_then}
use Rattle.std.specs.Ordering.{int_eq}
use Rattle.std.specs.Result.{result_ok}
use Rattle.std.specs.Str.{bytes_eq}
use Rattle.desk_base.specs.declared.profile.Profile.{Profile}
use Rattle.desk_base.specs.declared.profile.Profile.TheVariants.{Capitals, Either}
use Rattle.desk_model.specs.Conclusions.{conclusion_by}
use Rattle.desk_model.specs.History.{rules_in}
use Rattle.desk_model.specs.Names.{release_state_name, duty_state_name, release_state_named}
use Rattle.desk_model.specs.Readings.{Readings}
use Rattle.desk_model.specs.declared.reading.Conclusion.{Conclusion}
use Rattle.desk_model.specs.declared.reading.Document.{Document}
use Rattle.desk_model.specs.declared.reading.Package.{Package}
use Rattle.desk_model.specs.declared.reading.Reference.{Reference}
use Rattle.desk_model.specs.declared.reading.Rule.{Rule}
use Rattle.desk_model.specs.declared.reading.Verdict.{Verdict}
use Rattle.desk_model.specs.declared.reading.Verdict.TheVariants as verdict
use Rattle.desk_model.specs.declared.state.DutyState.{DutyState}
use Rattle.desk_model.specs.declared.state.DutyState.TheVariants as duty
use Rattle.desk_model.specs.declared.state.ReleaseState.TheVariants as release
use Rattle.desk_snapshot.specs.Changes.{AreChangesOf, is_waived, is_within}
use Rattle.desk_snapshot.specs.Rows.{AreFrom, is_attachment, is_choice_in, is_choice_of}
use Rattle.desk_snapshot.specs.Rows.{is_conclusion, is_frozen_in, is_package, is_reading_of}
use Rattle.desk_snapshot.specs.Rows.{is_release, is_rule_spelled}
use Rattle.desk_snapshot.specs.declared.rows.StoredAdoption.{StoredAdoption}
use Rattle.desk_snapshot.specs.declared.rows.StoredCatalogue.{StoredCatalogue}
use Rattle.desk_snapshot.specs.declared.rows.StoredChoice.{StoredChoice}
use Rattle.desk_snapshot.specs.declared.rows.StoredDocument.{StoredDocument}
use Rattle.desk_snapshot.specs.declared.rows.StoredDuty.{StoredDuty}
use Rattle.desk_snapshot.specs.declared.rows.StoredExtracted.{StoredExtracted}
use Rattle.desk_snapshot.specs.declared.rows.StoredFrozen.{StoredFrozen}
use Rattle.desk_snapshot.specs.declared.rows.StoredPackage.{StoredPackage}
use Rattle.desk_snapshot.specs.declared.rows.StoredReading.{StoredReading}
use Rattle.desk_snapshot.specs.declared.rows.StoredRelease.{StoredRelease}
use Rattle.desk_snapshot.specs.declared.rows.StoredRule.{StoredRule}
use Rattle.desk_snapshot.specs.declared.snapshot.Snapshot.{Snapshot}

-- One row of `meta`, with version 3.
abbrev pub HasVersion : Snapshot → Type 0
HasVersion s = s.meta ≡ record { version = pos 3 } ∷ []

-- The revisions are 1 to n, and each body is a catalogue.
pub record AreRevisions (w : Readings) (s : Snapshot) : Type 0 where
  pub numbered : AreFrom 1 (map (λ row. row.revision) s.catalogue)
  pub read : list_all (λ row. is_some (result_ok (w.catalogue row.body))) s.catalogue ≡ true

-- a rule of a revision as the tables keep it: its codes joined by one blank
abbrev pub stored_rule : ℤ → Rule → StoredRule
stored_rule revision rule = record {
  revision = revision;
  term = rule.term;
  form = rule.form;
  spelled = rule.spelled;
  codes = join_with_byte 32 rule.codes;
}

-- the rules that a revision's body has, by term and form
abbrev pub rules_by : Readings → StoredCatalogue → List StoredRule
rules_by w row = map (stored_rule row.revision) (rules_in (result_ok (w.catalogue row.body)))

-- The rules of each revision are those of its body.
abbrev pub AreRules : Readings → Snapshot → Type 0
AreRules w s = s.rule ≡ flat_map (rules_by w) s.catalogue

-- the document that the bytes of a row are, if they are one
abbrev pub document_in : Readings → StoredDocument → Option Document
document_in w row = result_ok (w.document row.bytes)

-- the bytes of a row are read, and have the row's namespace
abbrev pub is_read : Readings → StoredDocument → Bool
is_read w row = option_map_or (λ read. bytes_eq read.namespace row.namespace) (document_in w row)
    false

-- 1 for operators in capitals, 2 for either case
abbrev pub is_profile : StoredReading → Bool
is_profile row = int_eq row.profile (pos 1) || int_eq row.profile (pos 2)

-- The documents are 1 to n, the bytes of each are read and have its namespace, and each document,
-- and no other, has one profile.
pub record AreDocuments (w : Readings) (s : Snapshot) : Type 0 where
  pub numbered : AreFrom 1 (map (λ row. row.number) s.document)
  pub read : list_all (is_read w) s.document ≡ true
  pub profiled : map (λ row. row.document) s.reading ≡ map (λ row. row.number) s.document
  pub profiles : list_all is_profile s.reading ≡ true

-- a package as the tables keep it: 1 if it ships, else 0
abbrev pub stored_package : ℤ → Package → StoredPackage
stored_package document p = record {
  document = document;
  id = p.id;
  name = p.name;
  version = p.version;
  concluded = p.concluded;
  copyright = p.copyright;
  shipped = pos (if p.shipped then 1 else 0);
}

-- the packages that a document's bytes have, by id
abbrev pub packages_by : Readings → StoredDocument → List StoredPackage
packages_by w row = option_map_or (λ read. map (stored_package row.number) read.packages)
    (document_in w row) []

-- an extracted licence as the tables keep it
abbrev pub stored_extracted : ℤ → Reference → StoredExtracted
stored_extracted document r = record { document = document; reference = r.id; body = r.body }

-- the extracted licences that a document's bytes have, by id
abbrev pub extracted_by : Readings → StoredDocument → List StoredExtracted
extracted_by w row = option_map_or (λ read. map (stored_extracted row.number) read.references)
    (document_in w row) []

-- The packages and the extracted licences are those of the documents' bytes.
pub record ArePackages (w : Readings) (s : Snapshot) : Type 0 where
  pub all : s.packages ≡ flat_map (packages_by w) s.document
  pub extracted : s.extracted ≡ flat_map (extracted_by w) s.document

-- a text is the one that is given, if one is
abbrev pub is_that : List ℕ → Option (List ℕ) → Bool
is_that text told = option_map_or (bytes_eq text) told false

-- a text is a term as it is printed
abbrev pub is_printed : Readings → List ℕ → Bool
is_printed w text = is_that text (w.term text)

-- from a reference alone to a licence alone: no plus, no exception, no reference
abbrev pub is_adoption : Readings → StoredAdoption → Bool
is_adoption w row = (is_printed w row.reference
    && is_that row.reference (w.reference row.reference))
    && (is_printed w row.licence && w.is_licence row.licence)

-- a release that is withdrawn
abbrev pub is_withdrawn : StoredRelease → Bool
is_withdrawn row = bytes_eq row.state (release_state_name release.Withdrawn)

-- a release that is frozen now; a withdrawn one no longer is
abbrev pub is_frozen : StoredRelease → Bool
is_frozen row = bytes_eq row.state (release_state_name release.Frozen)

-- the profile that a stored number stands for
abbrev pub profile_of : StoredReading → Profile
profile_of row = if int_eq row.profile (pos 2) then Either else Capitals

-- the profile of a document
abbrev pub profile_at : Snapshot → ℤ → Profile
profile_at s document = option_map_or profile_of (find (is_reading_of document) s.reading) Capitals

-- the conclusion in force for a package: the office's, or else its own field if that is an
-- expression
abbrev pub conclusion_at : Readings → Snapshot → StoredPackage → Option Conclusion
conclusion_at w s p =
    conclusion_by w (option_map (λ row. row.expression)
    (find (is_conclusion p.document p.id) s.conclusion)) (profile_at s p.document) p.concluded

-- the terms that a release holds for a package
abbrev pub terms_at : Snapshot → StoredChoice → List (List ℕ)
terms_at s row = map (λ other. other.term)
    (filter (is_choice_of row.release row.document row.package_id) s.choice)

-- the verdict that no term can go
abbrev pub is_minimal : Verdict → Bool
is_minimal verdict.Minimal = true
is_minimal _ = false

-- terms as they are printed, which are a minimal set for a conclusion
abbrev pub are_minimal : Readings → List (List ℕ) → Conclusion → Bool
are_minimal w terms conclusion = list_all (is_printed w) terms
    && is_minimal (w.verdict conclusion.profile conclusion.text terms)

-- a package ships, and the terms are a minimal set for its conclusion
abbrev pub ships_under : Readings → Snapshot → List (List ℕ) → StoredPackage → Bool
ships_under w s terms p = int_eq p.shipped (pos 1)
    && option_map_or (are_minimal w terms) (conclusion_at w s p) false

-- A choice is in a release that isn't withdrawn, for a shipped package of an attached document, and
-- the terms of the release for this package are a minimal set for its conclusion.
abbrev pub is_choice : Readings → Snapshot → StoredChoice → Bool
is_choice w s row =
    option_map_or (λ release. not (is_withdrawn release)) (find (is_release row.release) s.releases)
    false
    && (list_any (is_attachment row.release row.document) s.attached
    && option_map_or (ships_under w s (terms_at s row))
    (find (is_package row.document row.package_id) s.packages) false)

-- a package and a term for it
pub record Held : Type 0 where
  pub document : ℤ
  pub package_id : List ℕ
  pub term : List ℕ

-- what a release holds, by document, package and term
abbrev pub chosen_in : Snapshot → List ℕ → List Held
chosen_in s release = map (λ row.
    record { document = row.document; package_id = row.package_id; term = row.term })
    (filter (is_choice_in release) s.choice)

-- what a release was frozen with, by document, package and term
abbrev pub frozen_in : Snapshot → List ℕ → List Held
frozen_in s release = map (λ row.
    record { document = row.document; package_id = row.package_id; term = row.term })
    (filter (is_frozen_in release) s.frozen)

-- a frozen release's choices are its frozen terms
abbrev pub IsKept : Snapshot → StoredRelease → Type 0
IsKept s release = is_frozen release ≡ true → chosen_in s release.name ≡ frozen_in s release.name

-- the numbers from 1 to n
abbrev pub numbers_to : ℕ → List ℤ
numbers_to n = map pos (range_with_len 1 n)

-- Conclusions are expressions, adoptions go from references to plain licence ids, places are 1 to
-- n, choices are ones that can be held, and a frozen release's choices are its frozen terms.
pub record AreChoices (w : Readings) (s : Snapshot) : Type 0 where
  pub conclusions : list_all (λ row. w.is_expression Capitals row.expression) s.conclusion ≡ true
  pub adoptions : list_all (is_adoption w) s.adoption ≡ true
  pub places : IsPermutation (numbers_to (length s.releases)) (map (λ row. row.place) s.releases)
  pub held : list_all (is_choice w s) s.choice ≡ true
  pub kept : AllByRecursion (IsKept s) s.releases

-- the release with a name was frozen: its revision isn't 0
abbrev pub was_frozen : Snapshot → List ℕ → Bool
was_frozen s name = option_map_or (λ release. not (int_eq release.revision (pos 0)))
    (find (is_release name) s.releases) false

-- The duties are 1 to n, with n at most 100,000, each of a release that was frozen.
pub record AreNumbered (s : Snapshot) : Type 0 where
  pub numbered : AreFrom 1 (map (λ row. row.number) s.duty)
  pub few : nat_le (length s.duty) 100000 ≡ true
  pub frozen : list_all (λ row. was_frozen s row.release) s.duty ≡ true

-- the rule of a release's revision and form that is spelled like a frozen term's rule
abbrev pub rule_for : Snapshot → StoredFrozen → Option StoredRule
rule_for s row =
    option_and_then (λ release. find (is_rule_spelled release.revision release.form row.rule)
    s.rule) (find (is_release row.release) s.releases)

-- the codes that are joined by one blank in a text
abbrev pub codes_in : List ℕ → List (List ℕ)
codes_in text = filter (λ code. nat_lt 0 (length code)) (slice_split (λ byte. byte == 32) text)

-- what a duty is owed for
pub record Owed : Type 0 where
  pub release : List ℕ
  pub document : ℤ
  pub package_id : List ℕ
  pub term : List ℕ
  pub code : List ℕ
  pub rule : List ℕ

-- what a frozen term owes for one code
abbrev pub owed_for : StoredFrozen → List ℕ → Owed
owed_for row code = record {
  release = row.release;
  document = row.document;
  package_id = row.package_id;
  term = row.term;
  code = code;
  rule = row.rule;
}

-- what a frozen term owes: each code of its rule
abbrev pub owed_by : Snapshot → StoredFrozen → List Owed
owed_by s row = option_map_or (λ rule. map (owed_for row) (codes_in rule.codes)) (rule_for s row) []

-- what the row of a duty says that it is owed for
abbrev pub owed_of : StoredDuty → Owed
owed_of row = record {
  release = row.release;
  document = row.document;
  package_id = row.package_id;
  term = row.term;
  code = row.code;
  rule = row.rule;
}

-- a frozen term is of a release that was frozen, and its rule is there
abbrev pub is_ruled : Snapshot → StoredFrozen → Bool
is_ruled s row = was_frozen s row.release && is_some (rule_for s row)

-- The duties of each release are exactly those that its frozen terms owe, each by the rule of the
-- release's revision and form.
pub record AreDuties (s : Snapshot) : Type 0 where
  pub ruled : list_all (is_ruled s) s.frozen ≡ true
  pub owed : IsPermutation (flat_map (owed_by s) s.frozen) (map owed_of s.duty)

-- The changes of each duty, and no other changes; and last days only at waived steps.
pub record AreChanges (s : Snapshot) : Type 0 where
  pub of_each : AllByRecursion (AreChangesOf s) s.duty
  pub of_duties : list_all (λ row. is_within (length s.duty) row.duty) s.changes ≡ true
  pub waivers : list_all (is_waived s) s.waiver ≡ true

-- the row of a duty has the name of this state
abbrev pub is_in_state : DutyState → StoredDuty → Bool
is_in_state state row = bytes_eq row.state (duty_state_name state)

-- a duty of a withdrawn release is neither open nor waived, and one of another release isn't
-- withdrawn
abbrev pub stands_as : StoredRelease → StoredDuty → Bool
stands_as release row =
    if is_withdrawn release then not (is_in_state duty.IsOpen row || is_in_state duty.Waived row)
    else not (is_in_state duty.Withdrawn row)

-- A withdrawn release has no open or waived duty, and any other release no withdrawn one. A release
-- is open, frozen or withdrawn.
pub record AreStates (s : Snapshot) : Type 0 where
  pub releases : list_all (λ row. is_some (release_state_named row.state)) s.releases ≡ true
  pub duties : list_all (λ row. option_map_or (λ release. stands_as release row)
      (find (is_release row.release) s.releases) true) s.duty ≡ true
