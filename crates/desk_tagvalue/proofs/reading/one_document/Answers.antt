use Rattle.desk_tagvalue.proofs.ReadLemmas.{spells_once, never_memory}
use Rattle.desk_tagvalue.proofs.reading.one_document.Goals as goal

pub returns-clause-once : goal.returns-clause-once
returns-clause-once c = spells_once

pub returns-clause-memory : goal.returns-clause-memory
returns-clause-memory c = never_memory
