use Rattle.std.proofs.Common.{◌≡◌}
use Rattle.std.specs.List.{flat_map}
use Rattle.desk_report.specs.Terminal.{line_char}
use Rattle.desk_report.proofs.terminal.lines_shown.Given as goal

-- each character so far
abbrev pub invariant-loop-ch : goal.invariant-loop-ch
invariant-loop-ch l = l.bytes.items ≡ flat_map line_char l.yielded
