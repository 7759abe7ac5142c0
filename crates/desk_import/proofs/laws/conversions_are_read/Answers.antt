use Rattle.desk_import.proofs.Reread.{conversion_read}
use Rattle.desk_import.proofs.laws.conversions_are_read.Goals as goal

pub returns : goal.returns
returns c = conversion_read
