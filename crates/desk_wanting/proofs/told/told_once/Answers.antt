use Rattle.desk_wanting.proofs.Lists.{told_once_step}
use Rattle.desk_wanting.proofs.told.told_once.Goals as goal

pub loop-refusal-preserved : goal.loop-refusal-preserved
loop-refusal-preserved c =
    told_once_step c.loop-refusal.yielded c.loop-refusal.told.items c.add_once.new.told.items
    c.in-Some.refusal c.loop-refusal.invariant c.in_ok-add_once.ensures
