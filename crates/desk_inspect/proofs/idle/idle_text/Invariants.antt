use Rattle.std.proofs.Common.{◌≡◌, take}
use Rattle.std.specs.List.{flat_map}
use Rattle.desk_inspect.specs.Idle.{idle_line}
use Rattle.desk_inspect.proofs.idle.idle_text.Given as goal

-- a line for each document before the index
abbrev pub invariant-loop-number : goal.invariant-loop-number
invariant-loop-number l = l.text.items ≡ flat_map idle_line (take l.number-index l.numbers)
