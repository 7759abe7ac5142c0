use Rattle.std.proofs.Common.{◌≡◌, ◌++◌, drop, map, filter, length}
use Rattle.std.specs.Prelude.{nat_lt}
use Rattle.desk_snapshot.specs.Conditions.{owed_for}
use Rattle.desk_audit.specs.Owing.{owed_in}
use Rattle.desk_audit.proofs.owed.push_codes.Given as goal
use Rattle.desk_base.specs.Borrowed.{texts}

-- what was appended, and what is still to come, is all that is appended
abbrev pub invariant-loop-code : goal.invariant-loop-code
invariant-loop-code l =
    map owed_in l.owed.items ++ map (owed_for l.row)
    (filter (λ code. nat_lt 0 (length code)) (texts (drop l.code-index l.codes)))
    ≡ map owed_in l.initial.owed.items
    ++ map (owed_for l.row) (filter (λ code. nat_lt 0 (length code)) (texts l.codes))
