-- The numbers, names and places of the faults.
use Rattle.std.specs.Prelude.{ℕ, List, codes}
use Rattle.desk_expr.specs.declared.fault.ParseFault.{ParseFault}
use Rattle.desk_expr.specs.declared.fault.ParseFault.TheVariants.{Empty, BadToken, Unexpected}
use Rattle.desk_expr.specs.declared.fault.ParseFault.TheVariants.{Unclosed, TooDeep, TooLong}
use Rattle.desk_expr.specs.declared.fault.ParseFault.TheVariants.{TooManyTerms, Memory}

-- the number by which replies give the fault; 0 if there was no memory
abbrev pub fault_number : ParseFault → ℕ
fault_number (Memory error) = 0
fault_number (Empty place) = 1
fault_number (BadToken place) = 2
fault_number (Unexpected place) = 3
fault_number (Unclosed place) = 4
fault_number (TooDeep place) = 5
fault_number (TooLong place) = 6
fault_number (TooManyTerms place) = 7

-- the name of the fault, as it is printed
abbrev pub fault_name : ParseFault → List ℕ
fault_name (Memory error) = codes "Memory"
fault_name (Empty place) = codes "Empty"
fault_name (BadToken place) = codes "BadToken"
fault_name (Unexpected place) = codes "Unexpected"
fault_name (Unclosed place) = codes "Unclosed"
fault_name (TooDeep place) = codes "TooDeep"
fault_name (TooLong place) = codes "TooLong"
fault_name (TooManyTerms place) = codes "TooManyTerms"

-- the place of the byte at which the expression fails, counted from 0; lack of memory has no place,
-- and has 0 here
abbrev pub fault_place : ParseFault → ℕ
fault_place (Memory error) = 0
fault_place (Empty place) = place
fault_place (BadToken place) = place
fault_place (Unexpected place) = place
fault_place (Unclosed place) = place
fault_place (TooDeep place) = place
fault_place (TooLong place) = place
fault_place (TooManyTerms place) = place
