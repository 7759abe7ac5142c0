use Rattle.desk_laws.proofs.Writing.{writable}
use Rattle.desk_laws.proofs.tables.changes_can_be_written.Goals as goal

pub returns : goal.returns
returns c = writable
