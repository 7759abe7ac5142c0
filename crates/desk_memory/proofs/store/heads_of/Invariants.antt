use Rattle.std.proofs.Common.{◌≡◌, ◌++◌, map, drop}
use Rattle.desk_model.specs.Queries.{head_of}
use Rattle.desk_memory.proofs.store.heads_of.Given as goal

abbrev pub invariant-loop-row : goal.invariant-loop-row
invariant-loop-row l = l.heads.items ++ map head_of (drop l.row-index l.rows) ≡ map head_of l.rows
