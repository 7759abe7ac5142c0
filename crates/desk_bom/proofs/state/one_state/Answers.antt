use Rattle.desk_bom.proofs.OneState.{one_state}
use Rattle.desk_bom.proofs.state.one_state.Goals as goal

pub returns : goal.returns
returns c = one_state
