use Rattle.std.proofs.Common.{◌≡◌, ◌+◌, ◌≤◌, List, length}
use Rattle.std.specs.Prelude.{Result, map}
use Rattle.desk_fields.specs.declared.fault.DocFault.{DocFault}
use Rattle.desk_fields.specs.Cutting.{Reads, FieldText, with_front, behind_mark}
use Rattle.desk_base.specs.Limits.{document_bytes}
use Rattle.desk_tagvalue.specs.Entries.{entry_text, read_entry}
use Rattle.desk_tagvalue.proofs.entries.entries_of.Given as goal

-- what the rest gives, after the fields so far, is what the text gives
abbrev pub invariant-loop-field : goal.invariant-loop-field
invariant-loop-field l =
    (l.field-iterator.line + length l.field-iterator.rest.now ≤ 1 + document_bytes)
    × (fs : List FieldText) × (map entry_text l.entries.items ≡ map read_entry fs)
    × ((r : Result (List FieldText) DocFault)
    → Reads l.field-iterator.line l.field-iterator.rest.now r
    → Reads 1 (behind_mark l.text) (with_front fs r))
