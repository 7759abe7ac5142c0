use Rattle.std.specs.Prelude.{List, Result, map}
use Rattle.desk_fields.specs.declared.fault.DocFault.{DocFault}
use Rattle.desk_fields.specs.Cutting.{Reads, FieldText, with_front, behind_mark}
use Rattle.desk_fields.specs.Found.{field_text}
use Rattle.desk_fields.proofs.scanner.fields.Given as goal

-- what the rest gives, after the fields so far, is what the text gives
abbrev pub invariant-loop-field : goal.invariant-loop-field
invariant-loop-field l =
    (r : Result (List FieldText) DocFault) → Reads l.field-iterator.line l.field-iterator.rest.now r
    → Reads 1 (behind_mark l.text) (with_front (map field_text l.found.items) r)
