use Rattle.std.proofs.Common.{◌≡◌, drop, map}
use Rattle.desk_credits.specs.Patterns.{before_first}
use Rattle.desk_credits.proofs.patterns.before_first.Given as goal

-- the ends that are left decide
abbrev pub invariant-loop-end : goal.invariant-loop-end
invariant-loop-end l = before_first (map (λ end. end.now) (drop l.end-index l.ends)) l.bytes
    ≡ before_first (map (λ end. end.now) l.ends) l.bytes
