use Rattle.desk_import.proofs.Reread.{read_back}
use Rattle.desk_import.proofs.laws.documents_are_read_back.Goals as goal

pub returns : goal.returns
returns c = read_back
