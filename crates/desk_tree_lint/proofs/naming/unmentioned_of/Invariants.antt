use Rattle.std.proofs.Common.{◌≡◌, [], map, take}
use Rattle.desk_tree_lint.specs.Firsts.{asked_in, asked_of}
use Rattle.desk_tree_lint.proofs.naming.unmentioned_of.Given as goal

abbrev pub invariant-loop-place : goal.invariant-loop-place
invariant-loop-place l = map asked_in l.asked.items ≡ asked_of (take l.place l.keys) []
