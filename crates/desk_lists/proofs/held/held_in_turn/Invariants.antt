use Rattle.std.proofs.Common.{◌≡◌, take}
use Rattle.desk_lists.specs.Held.{duties_held}
use Rattle.desk_lists.proofs.held.held_in_turn.Given as goal

-- each duty before the index
abbrev pub invariant-loop-duty : goal.invariant-loop-duty
invariant-loop-duty l = duties_held l.held.items ≡ take l.duty-index l.duties
