-- The number, the line and the tag of a fault.
use Rattle.std.specs.Prelude.{ℕ, Option, Some, None}
use Rattle.desk_fields.specs.declared.tag.Tag.{Tag}
use Rattle.desk_fields.specs.declared.fault.DocFault.{DocFault}
use Rattle.desk_fields.specs.declared.fault.DocFault.TheVariants as faults

-- the number by which replies give the fault; 0 if there was no memory
abbrev pub fault_number : DocFault → ℕ
fault_number faults.Memory = 0
fault_number faults.NotUtf8 = 1
fault_number (faults.NoColon line) = 2
fault_number (faults.OpenText line) = 3
fault_number (faults.AfterText line) = 4
fault_number (faults.BadVersion line) = 5
fault_number (faults.Missing line tag) = 6
fault_number (faults.BadId line) = 7
fault_number (faults.DuplicateId line) = 8
fault_number (faults.Repeated line tag) = 9
fault_number (faults.BadRelationship line) = 10
fault_number faults.TooLarge = 11
fault_number (faults.TooManyElements line) = 12

-- the line of the fault, counted from 1; 0 if the bytes as a whole are refused, or memory ran out
abbrev pub fault_line : DocFault → ℕ
fault_line faults.Memory = 0
fault_line faults.NotUtf8 = 0
fault_line faults.TooLarge = 0
fault_line (faults.NoColon line) = line
fault_line (faults.OpenText line) = line
fault_line (faults.AfterText line) = line
fault_line (faults.BadVersion line) = line
fault_line (faults.Missing line tag) = line
fault_line (faults.BadId line) = line
fault_line (faults.DuplicateId line) = line
fault_line (faults.Repeated line tag) = line
fault_line (faults.BadRelationship line) = line
fault_line (faults.TooManyElements line) = line

-- the tag that is missing or repeated; no other fault names a tag
abbrev pub fault_tag : DocFault → Option Tag
fault_tag (faults.Missing line tag) = Some tag
fault_tag (faults.Repeated line tag) = Some tag
fault_tag _ = None
