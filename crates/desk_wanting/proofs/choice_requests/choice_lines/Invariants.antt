use Rattle.std.proofs.Common.{◌≡◌, take}
use Rattle.std.specs.List.{flat_map}
use Rattle.std.specs.String.{string_bytes}
use Rattle.desk_wanting.specs.Requests.{choice_line}
use Rattle.desk_wanting.proofs.choice_requests.choice_lines.Given as goal

abbrev pub invariant-loop-choice : goal.invariant-loop-choice
invariant-loop-choice l = string_bytes l.lines
    ≡ flat_map (choice_line l.release) (take l.choice-index l.choices)
