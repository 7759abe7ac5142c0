use Rattle.std.proofs.Common.{◌≡◌, ◌++◌, take}
use Rattle.std.specs.List.{flat_map}
use Rattle.std.specs.String.{string_bytes}
use Rattle.desk_page.specs.Pieces.{rule_line}
use Rattle.desk_page.proofs.cell.add_rule_lines.Given as goal

-- a line for each rule before the index
abbrev pub invariant-loop-rule : goal.invariant-loop-rule
invariant-loop-rule l = string_bytes l.text ≡ string_bytes l.initial.text
    ++ flat_map rule_line (take l.rule-index l.rules)
