use Rattle.desk_access.proofs.Chains.{looked_err, same_then_kept, same_then_same}
use Rattle.desk_packages.proofs.shipped.shipped_packages.Goals as goal

pub returns-in_err-more-clause-kept : goal.returns-in_err-more-clause-kept
returns-in_err-more-clause-kept g c =
    looked_err _ _ c.from_residual.result c.from_residual.ensures.0
    (same_then_kept _ _ _ c.loop-row.invariant.same c.in_err-more.ensures.kept)

pub returns-in_err-append-clause-kept : goal.returns-in_err-append-clause-kept
returns-in_err-append-clause-kept g c =
    looked_err _ _ c.from_residual-in_err-append.result c.from_residual-in_err-append.ensures.0
    (same_then_same _ _ _ c.loop-row.invariant.same c.in_ok-more.ensures.kept).kept
