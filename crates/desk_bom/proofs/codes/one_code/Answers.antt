use Rattle.desk_bom.proofs.OneState.{one_code}
use Rattle.desk_bom.proofs.codes.one_code.Goals as goal

pub returns : goal.returns
returns c = one_code
