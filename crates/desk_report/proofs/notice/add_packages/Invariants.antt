use Rattle.std.proofs.Common.{◌≡◌, ◌++◌, take}
use Rattle.std.specs.List.{flat_map}
use Rattle.std.specs.String.{string_bytes}
use Rattle.desk_report.specs.Notices.{package_notice}
use Rattle.desk_report.proofs.notice.add_packages.Given as goal

-- the notice of each package before the index
abbrev pub invariant-loop-line : goal.invariant-loop-line
invariant-loop-line l = string_bytes l.text ≡ string_bytes l.initial.text
    ++ flat_map package_notice (take l.line-index l.lines)
