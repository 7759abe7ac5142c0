use Rattle.std.proofs.Common.{sym, subst}
use Rattle.std.specs.List.Sorted.{IsStrictlySortedBy}
use Rattle.desk_catalogue.proofs.Sought.{entries_in_order}
use Rattle.desk_catalogue.proofs.order.rules_in.Goals as goal
use Rattle.desk_model.specs.Keys.{rule_order}

pub of-requires : goal.of-requires
of-requires c =
    subst (IsStrictlySortedBy rule_order) (sym c.in_ok-rules.ensures)
    (entries_in_order c.args.rules.entries c.len-count.ensures.ordered)
