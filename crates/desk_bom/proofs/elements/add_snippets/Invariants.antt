use Rattle.std.proofs.Common.{◌≡◌, ◌++◌, take}
use Rattle.std.specs.Prelude.{map}
use Rattle.desk_bom.proofs.elements.add_snippets.Given as goal
use Rattle.desk_base.specs.Borrowed.{texts}

-- those so far were added
abbrev pub invariant-loop-snippet : goal.invariant-loop-snippet
invariant-loop-snippet l = texts l.ids.items ≡ texts l.fn.ids.items
    ++ map (λ p. p.id.now) (take l.snippet-index l.snippets)
