use Rattle.desk_bills.proofs.Uses.{first_use, later_use}
use Rattle.desk_bills.proofs.texts.first_uses.Goals as goal

pub loop-text-preserved-in-Continue-branch-3 : goal.loop-text-preserved-in-Continue-branch-3
loop-text-preserved-in-Continue-branch-3 c =
    first_use c.loop-text.yielded c.loop-text.uses.items c.in-Some.text c.loop-text.seen
    c.insert.new.self _ _ c.in_ok-key.ensures c.loop-text.invariant.1 c.in_ok-insert.ensures.added
    c.in_ok-insert.ensures.updates c.loop-text.invariant.0 _ c.if-branch.true
    c.in_ok-push.ensures.items

pub loop-text-preserved-else-branch : goal.loop-text-preserved-else-branch
loop-text-preserved-else-branch c =
    later_use c.loop-text.yielded c.loop-text.uses.items c.in-Some.text c.loop-text.seen
    c.insert.new.self _ _ c.in_ok-key.ensures c.loop-text.invariant.1 c.in_ok-insert.ensures.added
    c.in_ok-insert.ensures.updates c.loop-text.invariant.0 c.if-branch.false

pub loop-text-preserved : goal.loop-text-preserved
loop-text-preserved c =
    later_use c.loop-text.yielded c.loop-text.uses.items c.in-Some.text c.loop-text.seen
    c.insert.new.self _ _ c.in_ok-key.ensures c.loop-text.invariant.1 c.in_ok-insert.ensures.added
    c.in_ok-insert.ensures.updates c.loop-text.invariant.0 c.if-branch.false
