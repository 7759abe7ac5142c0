use Rattle.std.proofs.Common.{◌≡◌, length}
use Rattle.desk_sql_layout.specs.Writable.{have_words}
use Rattle.desk_sql_layout.proofs.writable.have_words.Given as goal

-- the rules that are left pass exactly if all do
abbrev pub invariant-loop-rule : goal.invariant-loop-rule
invariant-loop-rule l = have_words l.left ≡ have_words l.fn.rules

abbrev pub decreases-loop-rule : goal.decreases-loop-rule
decreases-loop-rule l = length l.left
