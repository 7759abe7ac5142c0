use Rattle.std.proofs.Common.{◌≡◌, drop, map}
use Rattle.desk_credits.specs.Patterns.{has_front}
use Rattle.desk_credits.proofs.patterns.has_front.Given as goal

-- the fronts that are left decide
abbrev pub invariant-loop-front : goal.invariant-loop-front
invariant-loop-front l = has_front (map (λ front. front.now) (drop l.front-index l.fronts)) l.bytes
    ≡ has_front (map (λ front. front.now) l.fronts) l.bytes
