-- The order of sets is a total order.
use Rattle.std.specs.Prelude.{length}
use Rattle.std.specs.Cmp.{IsTotalOrder, then_total, on_total, nat_cmp_total}
use Rattle.std.specs.Cmp.Lexicographic.{lists_total}
use Rattle.desk_expr.specs.contracts.term.TermOrd.TheImpl.Laws.{total-law}
use Rattle.desk_alts.specs.Sets.{set_order}

-- any two sets can be compared, and only equal ones are equal in the order
pub set_total : IsTotalOrder set_order
set_total = then_total (on_total length nat_cmp_total) (lists_total total-law)
