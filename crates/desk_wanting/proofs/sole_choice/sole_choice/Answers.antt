use Rattle.desk_access.proofs.Chains.{looked_err, same_then_kept, same_then_same}
use Rattle.desk_wanting.proofs.sole_choice.sole_choice.Goals as goal

pub returns-in_err-terms-clause-kept : goal.returns-in_err-terms-clause-kept
returns-in_err-terms-clause-kept g c =
    looked_err _ _ c.from_residual-in_err-terms.result c.from_residual-in_err-terms.ensures.0
    (same_then_kept _ _ _ c.in_ok-chosen.ensures.kept c.in_err-terms.ensures.kept)

pub returns-in-Some-clause-kept : goal.returns-in-Some-clause-kept
returns-in-Some-clause-kept g c = same_then_same _ _ _ c.in_ok-chosen.ensures.kept
    c.in_ok-terms.ensures.kept

pub returns-clause-kept : goal.returns-clause-kept
returns-clause-kept g c = same_then_same _ _ _ c.in_ok-chosen.ensures.kept
    c.in_ok-terms.ensures.kept
