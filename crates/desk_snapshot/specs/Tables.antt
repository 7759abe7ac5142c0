-- The snapshot of tables that a desk holds.
use Rattle.std.specs.Prelude.{pos, [], ◌∷◌, map, filter, unwrap_or, if◌then◌else◌}
use Rattle.std.specs.List.{join_with_byte}
use Rattle.desk_base.specs.Profiles.{profile_number}
use Rattle.desk_model.specs.Names.{release_state_name, duty_state_name, word_name}
use Rattle.desk_model.specs.Tables.{Tables}
use Rattle.desk_model.specs.declared.row.AdoptionRow.{AdoptionRow}
use Rattle.desk_model.specs.declared.row.AttachedRow.{AttachedRow}
use Rattle.desk_model.specs.declared.row.CatalogueRow.{CatalogueRow}
use Rattle.desk_model.specs.declared.row.ChangeRow.{ChangeRow}
use Rattle.desk_model.specs.declared.row.ChoiceRow.{ChoiceRow}
use Rattle.desk_model.specs.declared.row.ConclusionRow.{ConclusionRow}
use Rattle.desk_model.specs.declared.row.DocumentRow.{DocumentRow}
use Rattle.desk_model.specs.declared.row.DutyRow.{DutyRow}
use Rattle.desk_model.specs.declared.row.ExtractedRow.{ExtractedRow}
use Rattle.desk_model.specs.declared.row.FrozenRow.{FrozenRow}
use Rattle.desk_model.specs.declared.row.PackageRow.{PackageRow}
use Rattle.desk_model.specs.declared.row.ReleaseRow.{ReleaseRow}
use Rattle.desk_model.specs.declared.row.RuleRow.{RuleRow}
use Rattle.desk_model.specs.Moves.{is_waiver}
use Rattle.desk_snapshot.specs.declared.rows.StoredAdoption.{StoredAdoption}
use Rattle.desk_snapshot.specs.declared.rows.StoredAttached.{StoredAttached}
use Rattle.desk_snapshot.specs.declared.rows.StoredCatalogue.{StoredCatalogue}
use Rattle.desk_snapshot.specs.declared.rows.StoredChange.{StoredChange}
use Rattle.desk_snapshot.specs.declared.rows.StoredChoice.{StoredChoice}
use Rattle.desk_snapshot.specs.declared.rows.StoredConclusion.{StoredConclusion}
use Rattle.desk_snapshot.specs.declared.rows.StoredDocument.{StoredDocument}
use Rattle.desk_snapshot.specs.declared.rows.StoredDuty.{StoredDuty}
use Rattle.desk_snapshot.specs.declared.rows.StoredExtracted.{StoredExtracted}
use Rattle.desk_snapshot.specs.declared.rows.StoredFrozen.{StoredFrozen}
use Rattle.desk_snapshot.specs.declared.rows.StoredPackage.{StoredPackage}
use Rattle.desk_snapshot.specs.declared.rows.StoredReading.{StoredReading}
use Rattle.desk_snapshot.specs.declared.rows.StoredRelease.{StoredRelease}
use Rattle.desk_snapshot.specs.declared.rows.StoredRule.{StoredRule}
use Rattle.desk_snapshot.specs.declared.rows.StoredWaiver.{StoredWaiver}
use Rattle.desk_snapshot.specs.declared.snapshot.Snapshot.{Snapshot}

-- a revision
abbrev pub catalogue_stored : CatalogueRow → StoredCatalogue
catalogue_stored row = record { revision = pos row.revision; body = row.body }

-- a rule: its codes are joined by one blank
abbrev pub rule_stored : RuleRow → StoredRule
rule_stored row = record {
  revision = pos row.revision;
  term = row.term;
  form = row.form;
  spelled = row.spelled;
  codes = join_with_byte 32 row.codes;
}

-- a document; its profile is in a table of its own
abbrev pub document_stored : DocumentRow → StoredDocument
document_stored row = record {
  number = pos row.number;
  namespace = row.namespace;
  bytes = row.bytes;
}

-- the profile of a document: 1 for operators in capitals, 2 for either case
abbrev pub reading_stored : DocumentRow → StoredReading
reading_stored row = record {
  document = pos row.number;
  profile = pos (profile_number row.profile);
}

-- a package: 1 if it ships, else 0
abbrev pub package_stored : PackageRow → StoredPackage
package_stored row = record {
  document = pos row.document;
  id = row.id;
  name = row.name;
  version = row.version;
  concluded = row.concluded;
  copyright = row.copyright;
  shipped = pos (if row.shipped then 1 else 0);
}

-- an extracted licence
abbrev pub extracted_stored : ExtractedRow → StoredExtracted
extracted_stored row = record {
  document = pos row.document;
  reference = row.reference;
  body = row.body;
}

-- a conclusion of the office
abbrev pub conclusion_stored : ConclusionRow → StoredConclusion
conclusion_stored row = record {
  document = pos row.document;
  package_id = row.package_id;
  expression = row.expression;
}

-- an adoption
abbrev pub adoption_stored : AdoptionRow → StoredAdoption
adoption_stored row = record {
  document = pos row.document;
  reference = row.reference;
  licence = row.licence;
}

-- a release: its state by name, its revision 0 before a freeze
abbrev pub release_stored : ReleaseRow → StoredRelease
release_stored row = record {
  name = row.name;
  place = pos row.place;
  form = row.form;
  state = release_state_name row.state;
  revision = pos row.revision;
}

-- a document that is attached to a release
abbrev pub attached_stored : AttachedRow → StoredAttached
attached_stored row = record { release = row.release; document = pos row.document }

-- a chosen term
abbrev pub choice_stored : ChoiceRow → StoredChoice
choice_stored row = record {
  release = row.release;
  document = pos row.document;
  package_id = row.package_id;
  term = row.term;
}

-- a frozen term, with the rule's spelling
abbrev pub frozen_stored : FrozenRow → StoredFrozen
frozen_stored row = record {
  release = row.release;
  document = pos row.document;
  package_id = row.package_id;
  term = row.term;
  rule = row.rule;
}

-- a duty: its state by name
abbrev pub duty_stored : DutyRow → StoredDuty
duty_stored row = record {
  number = pos row.number;
  release = row.release;
  document = pos row.document;
  package_id = row.package_id;
  term = row.term;
  code = row.code;
  rule = row.rule;
  state = duty_state_name row.state;
}

-- a change: its word by name; a waiver's last day is in a table of its own
abbrev pub change_stored : ChangeRow → StoredChange
change_stored row = record {
  duty = pos row.duty;
  step = pos row.step;
  day = row.day;
  word = word_name row.word;
  body = row.body;
}

-- the last day of a waiver that ends
abbrev pub waiver_stored : ChangeRow → StoredWaiver
waiver_stored row = record {
  duty = pos row.duty;
  step = pos row.step;
  last_day = unwrap_or row.last_day [];
}

-- all tables of schema version 3
abbrev pub snapshot_of : Tables → Snapshot
snapshot_of t = record {
  meta = record { version = pos 3 } ∷ [];
  catalogue = map catalogue_stored t.catalogue;
  rule = map rule_stored t.rule;
  document = map document_stored t.document;
  reading = map reading_stored t.document;
  packages = map package_stored t.packages;
  extracted = map extracted_stored t.extracted;
  conclusion = map conclusion_stored t.conclusion;
  adoption = map adoption_stored t.adoption;
  releases = map release_stored t.releases;
  attached = map attached_stored t.attached;
  choice = map choice_stored t.choice;
  frozen = map frozen_stored t.frozen;
  duty = map duty_stored t.duty;
  changes = map change_stored t.changes;
  waiver = map waiver_stored (filter is_waiver t.changes);
}
