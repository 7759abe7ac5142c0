use Rattle.std.proofs.Common.{◌≡◌, ◌++◌, take}
use Rattle.std.specs.List.{flat_map}
use Rattle.std.specs.String.{string_bytes}
use Rattle.desk_report.specs.Notices.{rule_line}
use Rattle.desk_report.proofs.notice.add_rules.Given as goal

-- a line for each rule before the index
abbrev pub invariant-loop-rule : goal.invariant-loop-rule
invariant-loop-rule l = string_bytes l.text ≡ string_bytes l.initial.text
    ++ flat_map rule_line (take l.rule-index l.rules)
