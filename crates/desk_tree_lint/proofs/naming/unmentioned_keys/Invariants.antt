use Rattle.std.proofs.Common.{◌≡◌, [], map, take}
use Rattle.desk_base.specs.Borrowed.{texts}
use Rattle.desk_tree_lint.specs.Firsts.{asked_in, asked_of}
use Rattle.desk_tree_lint.proofs.naming.unmentioned_keys.Given as goal

abbrev pub invariant-loop-key : goal.invariant-loop-key
invariant-loop-key l = map asked_in l.asked.items ≡ asked_of (texts (take l.key-index l.keys)) []
