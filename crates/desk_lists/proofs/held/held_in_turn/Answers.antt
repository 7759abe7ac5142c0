use Rattle.std.proofs.Common.{rules, take_all, ◌∙◌}
use Rattle.desk_lists.specs.declared.held.Held.{Held}
use Rattle.desk_lists.proofs.Lists.{shown_more}
use Rattle.desk_lists.proofs.held.held_in_turn.Goals as goal

pub loop-duty-preserved : goal.loop-duty-preserved
loop-duty-preserved c =
    shown_more (λ (row : Held). row.duty.now) c.args.duties.now c.loop-duty.duty-index
    c.duty-item.result c.loop-duty.held.items
    c.push.new.self.items _ c.loop-duty-test.true c.duty-item.is c.loop-duty.invariant
    (search rules) c.in_ok-push.ensures.items

pub returns : goal.returns
returns c = c.loop-duty.invariant
    ∙ take_all c.loop-duty.duty-index c.args.duties.now c.loop-duty-test.false
