use Rattle.desk_tree_gather.proofs.ReaderLemmas.{same_reader}
use Rattle.desk_tree_gather.proofs.laws.one_reader.Goals as goal

pub returns : goal.returns
returns c = same_reader
