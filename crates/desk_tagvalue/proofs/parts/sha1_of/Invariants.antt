use Rattle.std.proofs.Common.{◌≡◌, drop}
use Rattle.std.specs.Prelude.{map}
use Rattle.desk_tagvalue.specs.Entries.{entry_text}
use Rattle.desk_tagvalue.specs.Parts.{sha1_of}
use Rattle.desk_tagvalue.proofs.parts.sha1_of.Given as goal

-- the fields passed over have no such checksum
abbrev pub invariant-loop-entry : goal.invariant-loop-entry
invariant-loop-entry l = sha1_of (map entry_text l.fields)
    ≡ sha1_of (map entry_text (drop l.entry-index l.fields))
