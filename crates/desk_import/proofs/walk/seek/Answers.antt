use Rattle.std.proofs.Common.{◌∙◌, ◌<◌, ap, arith, length, map, subst, sym}
use Rattle.std.proofs.lemmas.List.{take_rest}
use Rattle.desk_spdx_json.specs.Steps.{step_text}
use Rattle.desk_import.specs.Places.{first_place, line_count}
use Rattle.desk_import.proofs.WalkLemmas.{behind_more, here_at, past_all}
use Rattle.desk_import.proofs.walk.seek.Goals as goal

pub returns-then-left-count-clause-here : goal.returns-then-left-count-clause-here
returns-then-left-count-clause-here c =
    let steps = c.args.steps.now in
    let i = c.loop-index.index in
    let count = c.line_count-count.ensures
    ∙ ap (λ s. line_count (step_text s)) c.index-steps-index.is in
    here_at steps i c.index-steps-index.result c.args.lines c.loop-index.left
    c.loop-index-test.true c.loop-index.invariant.within
    (subst (λ k. c.loop-index.left < k) count c.if-left-count.true) c.loop-index.invariant.behind
    ∙ sym (ap (λ l. first_place (map step_text l)) (take_rest steps i))

pub loop-index-preserved : goal.loop-index-preserved
loop-index-preserved c = record {
  within = omega arith;
  behind = behind_more c.args.steps.now c.loop-index.index c.index-steps-index.result c.args.lines
      c.loop-index.left c.line_count-count.result c.loop-index-test.true
      c.loop-index.invariant.within (omega arith)
      (c.line_count-count.ensures ∙ ap (λ s. line_count (step_text s)) c.index-steps-index.is)
      c.loop-index.invariant.behind;
}

pub returns-clause-here : goal.returns-clause-here
returns-clause-here c =
    let steps = c.args.steps.now in
    past_all steps c.loop-index.index c.args.lines c.loop-index.left (omega arith)
    c.loop-index.invariant.within c.loop-index.invariant.behind
    ∙ sym (ap (λ l. first_place (map step_text l)) (take_rest steps (length steps)))
