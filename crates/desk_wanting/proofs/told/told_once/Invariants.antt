use Rattle.std.proofs.Common.{◌≡◌, []}
use Rattle.desk_model.specs.Obstacles.{told_once}
use Rattle.desk_wanting.proofs.told.told_once.Given as goal

abbrev pub invariant-loop-refusal : goal.invariant-loop-refusal
invariant-loop-refusal l = l.told.items ≡ told_once [] l.yielded
