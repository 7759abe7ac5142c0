use Rattle.std.proofs.Common.{◌≡◌, take}
use Rattle.std.specs.Prelude.{map}
use Rattle.desk_fields.specs.Text.{trimmed}
use Rattle.desk_bom.specs.Codes.{plain}
use Rattle.desk_bom.proofs.state.names_of.Given as goal
use Rattle.desk_base.specs.Borrowed.{texts}

-- those so far were added
abbrev pub invariant-loop-part : goal.invariant-loop-part
invariant-loop-part l = texts l.names.items
    ≡ map (λ part. plain (trimmed part)) (texts (take l.part-index l.parts))
