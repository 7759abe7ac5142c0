use Rattle.std.proofs.Common.{◌≡◌, drop, map}
use Rattle.desk_credits.specs.Patterns.{behind_first}
use Rattle.desk_credits.proofs.patterns.behind_first.Given as goal

-- the fronts that are left decide
abbrev pub invariant-loop-front : goal.invariant-loop-front
invariant-loop-front l = behind_first (map (λ front. front.now) (drop l.front-index l.fronts)) l.bytes
    ≡ behind_first (map (λ front. front.now) l.fronts) l.bytes
