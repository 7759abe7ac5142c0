use Rattle.std.proofs.Common.{◌≡◌, ◌++◌}
use Rattle.desk_base.specs.Borrowed.{texts}
use Rattle.desk_model.specs.Texts.{sorted_set}
use Rattle.desk_preparing.proofs.choice.sorted_set.Given as goal

abbrev pub invariant-loop-term : goal.invariant-loop-term
invariant-loop-term l = l.sorted.items ++ texts l.term-iterator ≡ sorted_set l.fn.terms
