use Rattle.std.proofs.Common.{◌≡◌, ◌-◌, ◌≤◌, true, length}
use Rattle.std.specs.List.{AllWithin}
use Rattle.std.specs.Ordering.{is_le}
use Rattle.desk_sorted.proofs.sorted.end_from.Given as goal

abbrev pub invariant-loop-end : goal.invariant-loop-end
invariant-loop-end g l = record {
  ordered : l.place ≤ l.end;
  within : l.end ≤ length l.rows;
  front : AllWithin (λ x. is_le (g.K.Sought.side l.key x) ≡ true) l.rows l.place l.end;
}

abbrev pub decreases-loop-end : goal.decreases-loop-end
decreases-loop-end g l = length l.rows - l.end
