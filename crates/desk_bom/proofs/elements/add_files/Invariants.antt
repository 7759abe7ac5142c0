use Rattle.std.proofs.Common.{◌≡◌, ◌++◌, take}
use Rattle.std.specs.Prelude.{map}
use Rattle.desk_bom.proofs.elements.add_files.Given as goal
use Rattle.desk_base.specs.Borrowed.{texts}

-- those so far were added
abbrev pub invariant-loop-file : goal.invariant-loop-file
invariant-loop-file l = texts l.ids.items ≡ texts l.fn.ids.items
    ++ map (λ p. p.id.now) (take l.file-index l.files)
