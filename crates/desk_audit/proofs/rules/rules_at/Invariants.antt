use Rattle.std.proofs.Common.{◌≡◌, map, take}
use Rattle.desk_audit.proofs.rules.rules_at.Given as goal

abbrev pub invariant-loop-rule : goal.invariant-loop-rule
invariant-loop-rule l = map (λ at. at.rule.now) l.places.items ≡ take l.rule-index l.rules
