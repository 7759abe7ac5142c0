use Rattle.std.proofs.Common.{refl, take_all, ◌∙◌}
use Rattle.desk_lists.proofs.Lists.{shown_more}
use Rattle.desk_answers.specs.declared.refusals.WantingLine.{WantingLine}
use Rattle.desk_answers.proofs.refusals.lines_of.Goals as goal

pub loop-refusal-preserved : goal.loop-refusal-preserved
loop-refusal-preserved c =
    shown_more (λ (line : WantingLine). line.refusal.now) c.args.refusals.now
    c.loop-refusal.refusal-index c.refusal-item.result c.loop-refusal.lines.items
    c.push.new.self.items _ c.loop-refusal-test.true
    c.refusal-item.is c.loop-refusal.invariant refl c.in_ok-push.ensures.items

pub returns : goal.returns
returns c = c.loop-refusal.invariant
    ∙ take_all c.loop-refusal.refusal-index c.args.refusals.now c.loop-refusal-test.false
