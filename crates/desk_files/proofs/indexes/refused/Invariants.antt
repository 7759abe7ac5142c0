use Rattle.std.proofs.Common.{◌≡◌, drop, map}
use Rattle.desk_files.specs.Differences.{refused}
use Rattle.desk_files.proofs.indexes.refused.Given as goal

-- the first that is refused is on a table of the names that are left
abbrev pub invariant-loop-name : goal.invariant-loop-name
invariant-loop-name l = refused l.schema (map (λ name. name.now) (drop l.name-index l.names))
    ≡ refused l.schema (map (λ name. name.now) l.names)
