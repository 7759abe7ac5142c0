use Rattle.desk_snapshot.specs.declared.fault.AuditFault.TheVariants.{BadChange, BadChoice}
use Rattle.desk_snapshot.specs.declared.fault.AuditFault.TheVariants.{BadDocument, BadDuty, BadMeta}
use Rattle.desk_snapshot.specs.declared.fault.AuditFault.TheVariants.{BadNumber, BadPackage}
use Rattle.desk_snapshot.specs.declared.fault.AuditFault.TheVariants.{BadRevision, BadRule}
use Rattle.desk_snapshot.specs.declared.fault.AuditFault.TheVariants.{BadState}
use Rattle.desk_history_laws.proofs.audits.histories_are_sound.Goals as goal

pub returns : goal.returns
returns c w h right ok BadMeta = c.versions_are_told.ensures w h
returns c w h right ok BadRevision = c.revisions_are_numbered_catalogues.ensures w h ok
returns c w h right ok BadRule = c.rules_are_those_of_their_catalogues.ensures w h
returns c w h right ok BadDocument = c.documents_are_numbered_and_read.ensures w h ok
returns c w h right ok BadPackage = c.packages_are_those_of_their_documents.ensures w h
returns c w h right ok BadChoice = c.choices_are_minimal_and_kept.ensures w h
    (c.right_readings_tell_what_audits_ask.ensures.choices w right) ok
returns c w h right ok BadNumber = c.duties_are_numbered_and_few.ensures w h ok
returns c w h right ok BadDuty = c.duties_are_what_frozen_terms_owe.ensures w h
    (c.right_readings_tell_what_audits_ask.ensures.rules w right) ok
returns c w h right ok BadChange = c.changes_are_the_moves_of_duties.ensures w h ok
returns c w h right ok BadState = c.duties_stand_as_their_releases.ensures w h ok
