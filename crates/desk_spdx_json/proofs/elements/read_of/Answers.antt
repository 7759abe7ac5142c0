use Rattle.std.proofs.Common.{List, map, refl}
use Rattle.std.specs.String.{string_bytes}
use Rattle.desk_spdx_json.specs.declared.steps.Step.{Step}
use Rattle.desk_spdx_json.specs.Elements.{read_of}
use Rattle.desk_spdx_json.specs.Steps.{lines_in, step_text}
use Rattle.desk_tagvalue.specs.Drafts.{text_of_lines}
use Rattle.desk_spdx_json.proofs.Added.{piece_more, pieces_end}
use Rattle.desk_spdx_json.proofs.Repeated.{read_more}
use Rattle.desk_spdx_json.proofs.elements.read_of.Goals as goal

pub loop-step-preserved : goal.loop-step-preserved
loop-step-preserved c =
    piece_more (λ (ss : List Step). read_of (map step_text ss))
    (λ (s : Step). text_of_lines (lines_in (step_text s))) c.args.steps.now c.loop-step.step-index
    c.step-item.result (string_bytes c.loop-step.text) (string_bytes c.add_text.new.out)
    (read_of (map step_text c.args.steps.now)) (λ rest. read_more (step_text c.step-item.result) (map step_text rest))
    c.loop-step-test.true c.step-item.is c.loop-step.invariant c.in_ok-add_text.ensures

pub returns : goal.returns
returns c =
    pieces_end (λ (ss : List Step). read_of (map step_text ss))
    (λ (s : Step). text_of_lines (lines_in (step_text s))) c.args.steps.now c.loop-step.step-index
    (string_bytes c.loop-step.text) (read_of (map step_text c.args.steps.now))
    c.loop-step-test.false refl c.loop-step.invariant
