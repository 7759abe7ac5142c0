-- How the code's results show those of the definitions.
use Rattle.std.specs.Prelude.{◌≡◌, ⊤, Result, Ok, Err}
use Rattle.desk_fill.specs.declared.fault.Flaw.{Flaw}
use Rattle.desk_fill.specs.declared.fault.FillFault.{FillFault}
use Rattle.desk_fill.specs.declared.fault.FillFault.TheVariants.{Refused, Memory}
use Rattle.desk_fill.specs.Reading.{Read}

-- a result is what is read, as it is shown
abbrev pub Gives : {A B : Type 0} → Read B → (A → B) → Result A Flaw → Type 0
Gives read show (Ok x) = read ≡ Ok (show x)
Gives read show (Err flaw) = read ≡ Err flaw

-- a file is read like this, or there was no memory
abbrev pub IsRead : {A : Type 0} → Read A → Result A FillFault → Type 0
IsRead read (Ok x) = read ≡ Ok x
IsRead read (Err (Refused flaw)) = read ≡ Err flaw
IsRead read (Err (Memory error)) = ⊤
