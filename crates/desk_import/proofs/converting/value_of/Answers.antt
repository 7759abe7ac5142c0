use Rattle.std.proofs.Common.{◌∙◌, ap, inr, refl, sym}
use Rattle.std.proofs.lemmas.Bool.{false≢true}
use Rattle.serde_json.specs.View.{view}
use Rattle.desk_import.specs.Results.{json_in}
use Rattle.desk_import.proofs.ResultLemmas.{json_in-json, json_in-other}
use Rattle.desk_import.proofs.converting.value_of.Goals as goal

pub returns-in-Ok-clause-ok : goal.returns-in-Ok-clause-ok
returns-in-Ok-clause-ok c =
    let json = c.in-Ok.ensures.ok in
    ap json_in (sym c.behind_mark.ensures)
    ∙ json_in-json c.behind_mark.result.now (view c.in-Ok.value) json.0 json.1

pub returns-in-Err-2-clause-err : goal.returns-in-Err-2-clause-err
returns-in-Err-2-clause-err c =
    inr (
      refl,
      ap json_in (sym c.behind_mark.ensures)
          ∙ json_in-other c.behind_mark.result.now
          (c.in-Err.ensures.err (λ memory. false≢true
          (sym c.if-is_memory.false ∙ c.is_memory.ensures.1 memory))),
    )
