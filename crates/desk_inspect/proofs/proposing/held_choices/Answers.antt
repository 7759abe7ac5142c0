use Rattle.desk_access.proofs.Chains.{looked_err, same_self}
use Rattle.desk_inspect.proofs.proposing.held_choices.Goals as goal

pub returns-in_err-releases-clause-kept : goal.returns-in_err-releases-clause-kept
returns-in_err-releases-clause-kept g c =
    looked_err _ _ c.from_residual.result c.from_residual.ensures.0 (same_self _).kept
