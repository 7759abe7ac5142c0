use Rattle.std.proofs.Common.{◌≡◌, length}
use Rattle.desk_sql_layout.specs.Writable.{rise}
use Rattle.desk_sql_layout.proofs.writable.rise.Given as goal

-- the packages that are left are in order exactly if all are
abbrev pub invariant-loop-first : goal.invariant-loop-first
invariant-loop-first l = rise l.left ≡ rise l.fn.packages

abbrev pub decreases-loop-first : goal.decreases-loop-first
decreases-loop-first l = length l.left
