-- Whether a release is ready, or lacks nothing for its notices, written out.
use Rattle.std.specs.Prelude.{◌≡◌, ℕ, Bool, true, false, List, [], ◌∷◌, Option}
use Rattle.std.specs.Io.KnownBytes.{Appends}
use Rattle.desk_model.specs.Readings.{Readings}
use Rattle.desk_model.specs.Tables.{Tables}
use Rattle.desk_model.specs.declared.command.Answer.{Answer}
use Rattle.desk_model.specs.declared.command.Answer.TheVariants.{Duties, Gaps}
use Rattle.desk_model.specs.declared.command.Outcome.{Outcome}
use Rattle.desk_model.specs.declared.command.Outcome.TheVariants.{Answered}
use Rattle.desk_model.specs.declared.command.Query.{Query}
use Rattle.desk_model.specs.declared.command.StoreFault.{StoreFault}
use Rattle.desk_access.specs.Seen.{Seen}
use Rattle.desk_views.specs.Showing.{Asks, shown}

-- whether nothing keeps the release back: no duty, or no gap
abbrev pub is_ready : Outcome → Bool
is_ready (Answered (Duties [])) = true
is_ready (Answered (Gaps [])) = true
is_ready _ = false

-- the program's status: done if nothing keeps the release back
abbrev pub ready_status : Answer → ℕ
ready_status (Duties []) = 0
ready_status (Gaps []) = 0
ready_status _ = 1

-- nothing is written if nothing does
abbrev pub ready_text : Bool → Answer → List ℕ
ready_text is_terminal (Duties []) = []
ready_text is_terminal (Gaps []) = []
ready_text is_terminal answer = shown is_terminal answer

module _ (is_right : Readings → Type 0) (tells : StoreFault → Type 0) {Left : Type 0}
    (stands : Left → Tables → Type 0) (query : Query) (before after : Seen Left) where
  -- the desk answers the question, the rows are written, and the status says whether there are any
  abbrev pub IsShownReady : Bool → Option (List ℕ) → Option (List ℕ) → ℕ → Type 0
  IsShownReady is_terminal old new status =
      (answer : Answer) × Asks is_right tells stands query before after (Answered answer)
      × Appends old new (ready_text is_terminal answer) × (status ≡ ready_status answer)
