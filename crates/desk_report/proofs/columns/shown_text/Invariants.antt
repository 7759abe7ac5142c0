use Rattle.std.proofs.Common.{◌≡◌}
use Rattle.std.specs.List.{flat_map}
use Rattle.std.specs.String.{string_bytes}
use Rattle.desk_base.specs.Terminal.{shown_char}
use Rattle.desk_report.proofs.columns.shown_text.Given as goal

-- each character so far
abbrev pub invariant-loop-ch : goal.invariant-loop-ch
invariant-loop-ch l = string_bytes l.found ≡ flat_map shown_char l.yielded
