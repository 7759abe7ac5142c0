use Rattle.desk_access.proofs.Chains.{looked_err, same_then_kept, same_then_same}
use Rattle.desk_wanting.proofs.term.unruled_alone.Goals as goal

pub returns-in_err-not_adopted-clause-kept : goal.returns-in_err-not_adopted-clause-kept
returns-in_err-not_adopted-clause-kept g c =
    looked_err _ _ c.from_residual-in_err-not_adopted.result
    c.from_residual-in_err-not_adopted.ensures.0
    (same_then_kept _ _ _ c.in_ok-rule_adopted.ensures.kept c.in_err-not_adopted.ensures.kept)

pub returns-in_err-no_rule-clause-kept : goal.returns-in_err-no_rule-clause-kept
returns-in_err-no_rule-clause-kept g c =
    looked_err _ _ c.from_residual-in_err-no_rule.result c.from_residual-in_err-no_rule.ensures.0
    (same_then_kept _ _ _ c.in_ok-rule_adopted.ensures.kept c.in_ok-not_adopted.ensures.kept.kept)

pub returns-clause-kept : goal.returns-clause-kept
returns-clause-kept g c = same_then_same _ _ _ c.in_ok-rule_adopted.ensures.kept
    c.in_ok-not_adopted.ensures.kept

pub returns-then-is_found-2-clause-kept : goal.returns-then-is_found-2-clause-kept
returns-then-is_found-2-clause-kept g c = same_then_same _ _ _ c.in_ok-rule_adopted.ensures.kept
    c.in_ok-not_adopted.ensures.kept
