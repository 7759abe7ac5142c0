use Rattle.std.proofs.Common.{◌≡◌, take}
use Rattle.desk_sql_lookup.proofs.rules.copies.Given as goal
use Rattle.desk_base.specs.Borrowed.{texts}

abbrev pub invariant-loop-part : goal.invariant-loop-part
invariant-loop-part l = l.copies.items ≡ texts (take l.part-index l.parts)
