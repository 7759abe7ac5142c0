use Rattle.std.proofs.Common.{◌≡◌, map}
use Rattle.desk_model.specs.History.{package_row}
use Rattle.desk_preparing.proofs.document.package_rows.Given as goal

abbrev pub invariant-loop-package : goal.invariant-loop-package
invariant-loop-package l = l.rows.items ≡ map (package_row l.document) l.yielded
