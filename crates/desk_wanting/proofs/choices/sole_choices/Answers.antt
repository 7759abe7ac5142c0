use Rattle.desk_access.proofs.Chains.{looked_err, same_then_kept, same_then_same}
use Rattle.desk_wanting.proofs.choices.sole_choices.Goals as goal

pub returns-in_ok-shipped_choices-in-None-clause-kept : goal.returns-in_ok-shipped_choices-in-None-clause-kept
returns-in_ok-shipped_choices-in-None-clause-kept g c =
    same_then_same _ _ _ c.in_ok-refusal.ensures.kept c.in_ok-shipped_choices-in-None.ensures.kept

pub returns-in_err-shipped_choices-in-None-clause-kept : goal.returns-in_err-shipped_choices-in-None-clause-kept
returns-in_err-shipped_choices-in-None-clause-kept g c =
    looked_err _ _ c.from_residual-in_err-shipped_choices-in-None.result
    c.from_residual-in_err-shipped_choices-in-None.ensures.0
    (same_then_kept _ _ _ c.in_ok-refusal.ensures.kept
    c.in_err-shipped_choices-in-None.ensures.kept)
