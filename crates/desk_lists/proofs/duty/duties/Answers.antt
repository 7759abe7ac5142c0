use Rattle.std.proofs.Common.{rules, is_lt}
use Rattle.std.proofs.lemmas.List.Sorted.{ranks_by}
use Rattle.std.proofs.lemmas.Fn.{always_returns_same}
use Rattle.desk_lists.specs.Duties.{raising_order, raising_total}
use Rattle.desk_lists.specs.declared.lines.DutyLine.{DutyLine}
use Rattle.desk_lists.proofs.duty.duties.Goals as goal

pub returns-clause-order : goal.returns-clause-order
returns-clause-order c =
    c.in_ok-sort_by.ensures.sorted (λ x y. is_lt (raising_order x y))
    (ranks_by raising_total (λ (line : DutyLine). line))
    (always_returns_same _ _ _ (λ a r f k. search rules))
