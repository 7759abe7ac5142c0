use Rattle.desk_credits.proofs.WrittenLemmas.{file_read}
use Rattle.desk_credits.proofs.laws.written_credits_are_read.Goals as goal

pub returns : goal.returns
returns c = file_read
