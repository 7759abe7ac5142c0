-- What holds after a failure.
use Rattle.std.specs.Prelude.{◌≡◌, ℕ, List}
use Rattle.std.specs.String.{string_bytes}
use Rattle.desk_model.specs.declared.command.Fault.{Fault}
use Rattle.desk_script.specs.declared.serving.ScriptStop.{ScriptStop}
use Rattle.desk_subcommands.specs.declared.failure.Failure.{Failure}
use Rattle.desk_subcommands.specs.declared.failure.Failure.TheVariants.{Memory, Write, Script}
use Rattle.desk_subcommands.specs.declared.failure.Failure.TheVariants.{Failed, Request, BadValue}
use Rattle.desk_subcommands.specs.declared.failure.Failure.TheVariants.{UnknownName}

-- the fact holds if no memory was left
abbrev pub IfMemory : Type 0 → Failure → Type 0
IfMemory fact (Memory error) = fact
IfMemory fact _ = Unit {0}

-- the fact holds if some value can't be written in its field
abbrev pub IfBadValue : Type 0 → Failure → Type 0
IfBadValue fact BadValue = fact
IfBadValue fact _ = Unit {0}

-- the fact holds after a failure for which nothing is written
abbrev pub IfUntold : Type 0 → Failure → Type 0
IfUntold fact (Memory error) = fact
IfUntold fact BadValue = fact
IfUntold fact (UnknownName name) = fact
IfUntold fact _ = Unit {0}

-- the program's status: 2, a wrong command line, if a value can't be written in its field or a name
-- is unknown, and else 3, a fault
abbrev pub failure_status : Failure → ℕ
failure_status BadValue = 2
failure_status (UnknownName name) = 2
failure_status _ = 3

-- what holds if a script stopped by a fault, which the failure reports, and what if this many of
-- its requests failed; it has no other failure
abbrev pub OfScript : (ScriptStop → Type 0) → (ℕ → Type 0) → Failure → Type 0
OfScript stopped failed (Script fault) = stopped fault
OfScript stopped failed (Failed count) = failed count
OfScript stopped failed _ = ⊥

-- what holds if the desk failed at a command by a fault, and what if the reply couldn't be written;
-- it has no other failure
abbrev pub OfRequest : (Fault → Type 0) → Type 0 → Failure → Type 0
OfRequest failed untold (Request fault) = failed fault
OfRequest failed untold (Memory error) = untold
OfRequest failed untold (Write error) = untold
OfRequest failed untold _ = ⊥

-- a text couldn't be written, or no memory was left for it
abbrev pub IsOfOutput : Failure → Type 0
IsOfOutput (Memory error) = Unit {0}
IsOfOutput (Write error) = Unit {0}
IsOfOutput _ = ⊥

-- the same for a document, or some value of it can't be written in its field
abbrev pub IsOfDocument : Failure → Type 0
IsOfDocument BadValue = Unit {0}
IsOfDocument failure = IsOfOutput failure

-- the same for a name, or nothing has the name
abbrev pub IsOfName : List ℕ → Type 0 → Failure → Type 0
IsOfName name nothing (UnknownName told) = (string_bytes told ≡ name) × nothing
IsOfName name nothing failure = IsOfOutput failure
