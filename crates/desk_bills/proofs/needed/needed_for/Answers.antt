use Rattle.desk_access.proofs.Chains.{same_then_same}
use Rattle.desk_bills.specs.Lacking.{needed_of}
use Rattle.desk_bills.proofs.InTurn.{line_more}
use Rattle.desk_bills.proofs.needed.needed_for.Goals as goal

pub loop-row-preserved : goal.loop-row-preserved
loop-row-preserved g c =
    let before = c.loop-row.invariant in
    let one = c.in_ok-one.ensures in
    record {
      same = same_then_same _ _ _ before.same one.kept;
      found = λ w right.
          line_more (λ t. needed_of w t c.args.release.now) c.loop-row.yielded c.in-Some.row
          _ _ _ _ _ _ before.same one.kept (before.found w right) (one.found w right)
          c.in_ok-push.ensures.items;
    }
