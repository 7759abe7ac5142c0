use Rattle.std.proofs.Common.{◌≡◌, drop, map}
use Rattle.desk_files.specs.Differences.{missing}
use Rattle.desk_files.proofs.differences.missing.Given as goal

-- the first that is missing is among the names that are left
abbrev pub invariant-loop-name : goal.invariant-loop-name
invariant-loop-name l = missing l.schema (map (λ name. name.now) (drop l.name-index l.names))
    ≡ missing l.schema (map (λ name. name.now) l.names)
