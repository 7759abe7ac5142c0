use Rattle.desk_access.proofs.Chains.{looked_err, same_then_kept, same_then_same}
use Rattle.desk_wanting.proofs.Looks.{looked_same}
use Rattle.desk_wanting.proofs.release.open_wanting.Goals as goal

pub returns-in_err-packages-clause-kept : goal.returns-in_err-packages-clause-kept
returns-in_err-packages-clause-kept g c =
    looked_err _ _ c.from_residual-in_err-packages.result c.from_residual-in_err-packages.ensures.0
    (same_then_kept _ _ _ c.in_ok-attached.ensures.kept c.in_err-packages.ensures.kept)

pub returns-in_err-refusals-clause-kept : goal.returns-in_err-refusals-clause-kept
returns-in_err-refusals-clause-kept g c =
    looked_err _ _ c.from_residual-in_err-refusals.result c.from_residual-in_err-refusals.ensures.0
    (same_then_kept _ _ _ c.in_ok-attached.ensures.kept
    (same_then_kept _ _ _ c.in_ok-packages.ensures.kept c.in_err-refusals.ensures.kept))

pub returns-clause-kept : goal.returns-clause-kept
returns-clause-kept g c =
    looked_same _ _ c.told_once.result
    (same_then_same _ _ _ c.in_ok-attached.ensures.kept
    (same_then_same _ _ _ c.in_ok-packages.ensures.kept c.in_ok-refusals.ensures.kept))
