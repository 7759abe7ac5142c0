use Rattle.std.proofs.Common.{rules, is_lt}
use Rattle.std.proofs.lemmas.List.Sorted.{ranks_by}
use Rattle.std.proofs.lemmas.Fn.{always_returns_same}
use Rattle.desk_audit.specs.Owing.{owed_in, owed_order, owed_total}
use Rattle.desk_audit.proofs.owed.sort_owed.Goals as goal

pub returns-clause-sorted : goal.returns-clause-sorted
returns-clause-sorted c =
    c.sort_unstable_by.ensures.sorted (λ x y. is_lt (owed_order (owed_in x) (owed_in y)))
    (ranks_by owed_total owed_in)
    (always_returns_same _ _ _ (λ a r f k. search rules))
