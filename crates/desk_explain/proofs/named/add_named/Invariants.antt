use Rattle.std.proofs.Common.{◌≡◌, ◌++◌, take}
use Rattle.std.specs.Prelude.{filter}
use Rattle.desk_explain.specs.Explanations.{is_named}
use Rattle.desk_explain.proofs.named.add_named.Given as goal

-- the entries before the index that have the name have been added
abbrev pub invariant-loop-entry : goal.invariant-loop-entry
invariant-loop-entry l = l.found.items ≡ l.initial.found.items
    ++ filter (is_named l.name) (take l.entry-index l.table)
