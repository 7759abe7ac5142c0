use Rattle.std.proofs.Common.{◌++◌, List, map, take}
use Rattle.desk_fill.specs.Subjects.{Entry, Indexes, credit_entry}
use Rattle.desk_fill.proofs.index.add_credits.Given as goal

-- those so far are there
abbrev pub invariant-loop-credit : goal.invariant-loop-credit
invariant-loop-credit l = (entries : List Entry) → Indexes entries l.initial.index
    → Indexes (entries ++ map credit_entry (take l.credit-index l.credits)) l.index
