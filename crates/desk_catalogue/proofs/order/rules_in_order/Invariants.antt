use Rattle.std.proofs.Common.{◌≡◌, ◌++◌, map}
use Rattle.desk_catalogue.specs.Shown.{rule_of_entry, rules_in}
use Rattle.desk_catalogue.proofs.order.rules_in_order.Given as goal

-- the rules so far, and those of the rest of the map, are all of it
abbrev pub invariant-loop-subject : goal.invariant-loop-subject
invariant-loop-subject l = l.listed.items ++ map rule_of_entry l.subject-iterator
    ≡ rules_in l.fn.rules
