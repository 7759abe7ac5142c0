-- What a command comes to over the rows of some tables before anything is written, and how that is
-- written.
use Rattle.std.specs.Prelude.{◌≡◌, Bool, true, false, Result, Ok, Err}
use Rattle.desk_model.specs.Readings.{Readings}
use Rattle.desk_model.specs.Tables.{Tables}
use Rattle.desk_model.specs.Answers.{is_recorded}
use Rattle.desk_model.specs.declared.command.Answer.{Answer}
use Rattle.desk_model.specs.declared.command.Change.{Change}
use Rattle.desk_model.specs.declared.command.Command.{Command}
use Rattle.desk_model.specs.declared.command.Fault.{Fault}
use Rattle.desk_model.specs.declared.command.Fault.TheVariants.{Memory, Store}
use Rattle.desk_model.specs.declared.command.Plan.{Plan}
use Rattle.desk_model.specs.declared.command.Plan.TheVariants.{Leave, Make}
use Rattle.desk_history.specs.FromTables.{answer_from, change_for}
use Rattle.desk_access.specs.Seen.{Seen, Same, Kept, Made, Failed}

-- the plan has this answer and, if it makes a change, this change
abbrev pub IsPlan : Answer → Change → Plan → Type 0
IsPlan answer change (Leave a) = a ≡ answer
IsPlan answer change (Make a made) = (a ≡ answer) × (made ≡ change)

-- the plan of a command over these tables
abbrev pub IsPlanOf : Readings → Command → Plan → Tables → Type 0
IsPlanOf w c plan t = IsPlan (answer_from w t c) (change_for w t c) plan

-- a change is made exactly if the answer is recorded
abbrev pub IsSound : Plan → Type 0
IsSound (Leave a) = is_recorded a ≡ false
IsSound (Make a change) = is_recorded a ≡ true

-- if the refusal is decided from the command alone, no fault of the store is returned and nothing
-- is written
abbrev pub SparesStore : Bool → Result Plan Fault → Type 0
SparesStore alone (Ok (Leave a)) = Unit {0}
SparesStore alone (Ok (Make a change)) = alone ≡ false
SparesStore alone (Err Memory) = Unit {0}
SparesStore alone (Err (Store fault)) = alone ≡ false

module _ {Left : Type 0} where
  -- deciding a command does nothing to a store, and gives a sound plan
  abbrev pub Plans : Seen Left → Seen Left → Result Plan Fault → Type 0
  Plans old new (Ok plan) = Same old new × IsSound plan
  Plans old new (Err fault) = Kept old new

  -- carrying out a plan: its answer, and its change written whole or not at all
  abbrev pub Carries : (Left → Tables → Type 0) → Plan → Seen Left → Seen Left → Result Answer Fault
      → Type 0
  Carries stands (Leave a) old new (Ok answer) = (answer ≡ a) × Same old new
  Carries stands (Leave a) old new (Err fault) = ⊥
  Carries stands (Make a change) old new (Ok answer) = (answer ≡ a) × Made stands change old new
  Carries stands (Make a change) old new (Err fault) = Failed stands change old new
