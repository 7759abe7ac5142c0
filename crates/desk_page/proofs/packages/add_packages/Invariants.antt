use Rattle.std.proofs.Common.{◌≡◌, ◌++◌, take}
use Rattle.std.specs.List.{flat_map}
use Rattle.std.specs.String.{string_bytes}
use Rattle.desk_page.specs.Rows.{package_row}
use Rattle.desk_page.proofs.packages.add_packages.Given as goal

-- a row for each package before the index
abbrev pub invariant-loop-line : goal.invariant-loop-line
invariant-loop-line l = string_bytes l.text ≡ string_bytes l.initial.text
    ++ flat_map package_row (take l.line-index l.lines)
