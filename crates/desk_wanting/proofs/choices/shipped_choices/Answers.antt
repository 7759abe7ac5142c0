use Rattle.desk_access.proofs.Chains.{looked_err, same_then_kept, same_then_same}
use Rattle.desk_wanting.proofs.Looks.{looked_after}
use Rattle.desk_wanting.proofs.choices.shipped_choices.Goals as goal

pub returns-in_err-packages-clause-kept : goal.returns-in_err-packages-clause-kept
returns-in_err-packages-clause-kept g c =
    looked_err _ _ c.from_residual-in_err-packages.result c.from_residual-in_err-packages.ensures.0
    (same_then_kept _ _ _ c.in_ok-attached.ensures.kept c.in_err-packages.ensures.kept)

pub returns-clause-kept : goal.returns-clause-kept
returns-clause-kept g c =
    looked_after _ _ _ c.sole_choices_for.result
    (same_then_same _ _ _ c.in_ok-attached.ensures.kept c.in_ok-packages.ensures.kept)
    c.sole_choices_for.ensures.kept
