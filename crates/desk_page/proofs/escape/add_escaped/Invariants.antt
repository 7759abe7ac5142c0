use Rattle.std.proofs.Common.{◌≡◌, ◌++◌}
use Rattle.std.specs.List.{flat_map}
use Rattle.std.specs.String.{string_bytes}
use Rattle.desk_page.specs.Escapes.{shown_char}
use Rattle.desk_page.proofs.escape.add_escaped.Given as goal

-- each character so far
abbrev pub invariant-loop-ch : goal.invariant-loop-ch
invariant-loop-ch l = string_bytes l.text ≡ string_bytes l.initial.text
    ++ flat_map shown_char l.yielded
