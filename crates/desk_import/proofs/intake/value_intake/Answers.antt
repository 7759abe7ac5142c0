use Rattle.std.proofs.Common.{◌∙◌, Global, Vec, ℕ, ap, refl, subst}
use Rattle.desk_import.specs.Intakes.{IsFound}
use Rattle.desk_import.specs.Results.{IsOf}
use Rattle.desk_import.proofs.intake.value_intake.Goals as goal

pub returns-clause-takes : goal.returns-clause-takes
returns-clause-takes c = (
  c.in-Ok-written.converted,
  subst (λ steps. IsOf c.args.files steps c.in-Ok-written.converted) (c.as_slice.ensures ∙ c.in-Ok.ensures)
      c.in-Ok-written.ensures.ok,
  ap (λ (v : Vec ℕ Global). v.items) c.into_bytes-bytes.ensures.value,
  refl,
)

pub returns-clause-found : goal.returns-clause-found
returns-clause-found c = λ reads is.
    c.listed_in-summary.ensures.found reads c.into_bytes-bytes.result.items
    (subst (λ bs. IsFound reads bs c.in_ok-summary.summary) c.as_slice-2.ensures.value
    (c.in_ok-summary.ensures.found reads is))
