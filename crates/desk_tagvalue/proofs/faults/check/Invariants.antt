use Rattle.std.proofs.Common.{◌≡◌, [], drop, take}
use Rattle.std.specs.Prelude.{map}
use Rattle.desk_tagvalue.specs.Entries.{entry_text}
use Rattle.desk_tagvalue.specs.Faults.{first_fault}
use Rattle.desk_tagvalue.specs.Seen.{newest, Knows}
use Rattle.desk_tagvalue.proofs.faults.check.Given as goal

-- no field so far fails, and the fault of all is that of the rest
abbrev pub invariant-loop-i : goal.invariant-loop-i
invariant-loop-i l = record {
  knows : Knows (take l.i l.entries) l.seen;
  rest : first_fault [] (map entry_text l.entries)
      ≡ first_fault (newest (take l.i l.entries)) (map entry_text (drop l.i l.entries));
}
