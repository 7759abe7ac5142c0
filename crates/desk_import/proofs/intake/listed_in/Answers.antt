use Rattle.std.proofs.Common.{subst, sym}
use Rattle.std.specs.Prelude.{IfOk}
use Rattle.std.proofs.lemmas.Result.{IfOk-weaker}
use Rattle.desk_import.specs.Intakes.{IsFound}
use Rattle.desk_import.specs.Summaries.{IsSummary}
use Rattle.desk_import.proofs.intake.listed_in.Goals as goal

pub returns-in-Some-Ok-clause-found : goal.returns-in-Some-Ok-clause-found
returns-in-Some-Ok-clause-found c = λ reads taken before.
    let found = subst (IsFound reads taken) c.in-Some-Ok.is before in
    let of_found = subst (λ r. IfOk r (IsSummary reads found.0)) c.in-Some-Ok.field-0-is found.2 in (
      found.0,
      found.1,
      IfOk-weaker c.listed.result _ _
          (λ s same. subst (IsSummary reads found.0) (sym same) of_found) c.listed.ensures.kept,
    )
