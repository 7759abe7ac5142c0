use Rattle.std.proofs.Common.{◌≡◌, drop, map}
use Rattle.std.specs.Prelude.{find}
use Rattle.desk_files.specs.Differences.{is_taken}
use Rattle.desk_files.proofs.differences.taken.Given as goal

-- the first that is taken is among the names that are left
abbrev pub invariant-loop-name : goal.invariant-loop-name
invariant-loop-name l = find (is_taken l.schema) (map (λ name. name.now) (drop l.name-index l.names))
    ≡ find (is_taken l.schema) (map (λ name. name.now) l.names)
