use Rattle.std.proofs.Common.{subst}
use Rattle.desk_import.specs.Intakes.{IsNoDocument, Takes}
use Rattle.desk_import.proofs.intake.converted_intake.Goals as goal

pub returns-in-Ok-clause-takes : goal.returns-in-Ok-clause-takes
returns-in-Ok-clause-takes c =
    subst (λ bs. IsNoDocument bs → Takes c.args.files bs c.in-Ok.taken.bytes.items c.in-Ok.taken.origin)
    c.as_slice.ensures.value c.in-Ok.ensures.takes
