use Rattle.desk_laws.proofs.Readers.{right_reader}
use Rattle.desk_laws.proofs.trees.right_reader_exists.Goals as goal

pub returns : goal.returns
returns c = right_reader
