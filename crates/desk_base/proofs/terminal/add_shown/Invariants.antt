use Rattle.std.proofs.Common.{◌≡◌, ◌++◌}
use Rattle.std.specs.List.{flat_map}
use Rattle.desk_base.specs.Terminal.{shown_char}
use Rattle.desk_base.proofs.terminal.add_shown.Given as goal

-- each character so far
abbrev pub invariant-loop-ch : goal.invariant-loop-ch
invariant-loop-ch l = l.bytes.items ≡ l.initial.bytes.items ++ flat_map shown_char l.yielded
