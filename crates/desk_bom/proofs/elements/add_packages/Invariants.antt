use Rattle.std.proofs.Common.{◌≡◌, ◌++◌, take}
use Rattle.std.specs.Prelude.{map}
use Rattle.desk_bom.proofs.elements.add_packages.Given as goal
use Rattle.desk_base.specs.Borrowed.{texts}

-- those so far were added
abbrev pub invariant-loop-package : goal.invariant-loop-package
invariant-loop-package l = texts l.ids.items ≡ texts l.fn.ids.items
    ++ map (λ p. p.id.now) (take l.package-index l.packages)
