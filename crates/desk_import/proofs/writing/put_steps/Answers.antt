use Rattle.std.proofs.Common.{◌≡◌, ◌∙◌, ◌⊎◌, ◌++◌, ap, subst}
use Rattle.std.specs.String.{string_bytes}
use Rattle.desk_tagvalue.specs.Drafts.{text_of_lines}
use Rattle.desk_import.specs.declared.faults.ConvertFault.TheVariants as faults
use Rattle.desk_spdx_json.specs.Steps.{step_text}
use Rattle.desk_import.specs.Results.{Passes, Fails}
use Rattle.desk_spdx_json.specs.Steps.{lines_in}
use Rattle.desk_import.proofs.StepLemmas.{stopped_at, put_more}
use Rattle.desk_import.proofs.writing.put_steps.Goals as goal

pub returns-in-Err-clause-err : goal.returns-in-Err-clause-err
returns-in-Err-clause-err c =
    stopped_at c.args.steps.now c.loop-step.step-index c.step-item.result c.in-Err.fault
    c.loop-step-test.true c.loop-step.invariant.pass
    (subst (λ s. (c.in-Err.fault ≡ faults.Memory) ⊎ Fails (step_text s) c.in-Err.fault)
    c.step-item.is c.in-Err.ensures.err)

pub loop-step-preserved : goal.loop-step-preserved
loop-step-preserved c =
    put_more (string_bytes c.args.out.now) (string_bytes c.loop-step.out)
    (string_bytes c.put_step.new.out) c.args.steps.now c.loop-step.step-index c.step-item.result
    c.loop-step-test.true c.loop-step.invariant
    (c.in-Ok.ensures.ok ∙ ap (λ s. string_bytes c.loop-step.out
    ++ text_of_lines (lines_in (step_text s))) c.step-item.is)
    (subst (λ s. Passes (step_text s)) c.step-item.is c.in-Ok.ensures.passes)
