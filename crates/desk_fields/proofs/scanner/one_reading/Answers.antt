use Rattle.desk_fields.proofs.OneReading.{reads_once}
use Rattle.desk_fields.proofs.scanner.one_reading.Goals as goal

pub returns : goal.returns
returns c = reads_once
