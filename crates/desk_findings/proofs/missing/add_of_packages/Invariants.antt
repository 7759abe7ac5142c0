use Rattle.std.proofs.Common.{◌≡◌, ◌++◌, take}
use Rattle.std.specs.Prelude.{map}
use Rattle.std.specs.List.{flat_map}
use Rattle.desk_tagvalue.specs.Views.{package_text}
use Rattle.desk_findings.specs.Findings.{missing_of_package}
use Rattle.desk_findings.proofs.missing.add_of_packages.Given as goal

abbrev pub invariant-loop-package : goal.invariant-loop-package
invariant-loop-package l = l.found.items ≡ l.fn.found.items
    ++ flat_map missing_of_package (map package_text (take l.package-index l.packages))
