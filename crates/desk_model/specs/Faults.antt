-- Which faults a desk may report.
use Rattle.desk_model.specs.declared.command.Fault.{Fault}
use Rattle.desk_model.specs.declared.command.Fault.TheVariants.{Memory, Store}
use Rattle.std.specs.Prelude.{List, [], ◌∷◌, Result, Ok, Err}
use Rattle.desk_model.specs.declared.command.StoreFault.{StoreFault}
use Rattle.desk_model.specs.declared.command.Answer.{Answer}
use Rattle.desk_model.specs.declared.command.Outcome.{Outcome}
use Rattle.desk_model.specs.declared.command.Outcome.TheVariants.{Answered, Failed}

-- lack of memory always, and of the store's own faults those that it may report
abbrev pub MayFail : (StoreFault → Type 0) → Fault → Type 0
MayFail tells Memory = Unit {0}
MayFail tells (Store fault) = tells fault

-- the outcome of a command or a query may be a fault, but only one that the desk may report
abbrev pub MayBecome : (StoreFault → Type 0) → Outcome → Type 0
MayBecome tells (Answered a) = Unit {0}
MayBecome tells (Failed fault) = MayFail tells fault

-- the same for each outcome of a list
abbrev pub MayAllBecome : (StoreFault → Type 0) → List Outcome → Type 0
MayAllBecome tells [] = Unit {0}
MayAllBecome tells (o ∷ os) = MayBecome tells o × MayAllBecome tells os

-- the outcome of a command with this answer, or with this fault
abbrev pub outcome_of : Result Answer Fault → Outcome
outcome_of (Ok a) = Answered a
outcome_of (Err fault) = Failed fault
