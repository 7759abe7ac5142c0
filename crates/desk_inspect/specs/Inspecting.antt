-- What is looked up in a desk and written, and the program's status, for each recorded history whose
-- tables are the desk's rows.
use Rattle.std.specs.Prelude.{◌≡◌, ℕ, List, Option, Result}
use Rattle.std.specs.Io.KnownBytes.{Appends}
use Rattle.desk_model.specs.Readings.{Readings}
use Rattle.desk_model.specs.Tables.{tables}
use Rattle.desk_model.specs.declared.command.Fault.{Fault}
use Rattle.desk_model.specs.declared.command.Outcome.TheVariants.{Failed}
use Rattle.desk_model.specs.declared.refusal.Refusal.{Refusal}
use Rattle.desk_access.specs.Seen.{Seen}
use Rattle.desk_core.specs.Desks.{InHistory}
use Rattle.desk_inspect.specs.Idle.{status_with}
use Rattle.desk_subcommands.specs.Filing.{outcome_line}
use Rattle.desk_views.specs.Choosing.{choices_status, choices_text}
use Rattle.desk_views.specs.Wanting.{refusal_lines, wanting_status}
use Rattle.desk_wanting.specs.Idle.{idle_found}
use Rattle.desk_wanting.specs.Obstacles.{wanting_found}
use Rattle.desk_wanting.specs.Sole.{sole_choices_found}
use Rattle.desk_wanting.specs.declared.sole_choice.SoleChoice.{SoleChoice}

module _ {Left : Type 0} (is_right : Readings → Type 0) (release : List ℕ) (before after : Seen Left)
    (old new : Option (List ℕ)) where
  -- everything that keeps the release from being frozen, one on each line
  abbrev pub TellsRefusals : ℕ → Type 0
  TellsRefusals status =
      (refusals : List Refusal)
      × InHistory is_right (λ w h. refusals ≡ wanting_found w (tables w h) release) before after
      × Appends old new (refusal_lines refusals) × (status ≡ wanting_status refusals)

  -- the same; these documents, which ship nothing, are refused too, by the status alone
  abbrev pub TellsBeside : List ℕ → ℕ → Type 0
  TellsBeside idle status =
      (found : ℕ) × TellsRefusals found × (status ≡ status_with found idle)

  -- the same of the attached documents that ship nothing
  abbrev pub TellsWanting : ℕ → Type 0
  TellsWanting status =
      (idle : List ℕ)
      × InHistory is_right (λ w h. idle ≡ idle_found (tables w h) release) before after
      × TellsBeside idle status

  -- the sole choices of the release as requests, or the reply to a request that is refused
  abbrev pub TellsChoices : ℕ → Type 0
  TellsChoices status =
      (found : Result (List SoleChoice) Refusal)
      × InHistory is_right (λ w h. found ≡ sole_choices_found w (tables w h) release) before after
      × Appends old new (choices_text release found) × (status ≡ choices_status found)

-- the reply that the desk failed by a fault
abbrev pub TellsFault : Option (List ℕ) → Option (List ℕ) → Fault → Type 0
TellsFault old new fault = Appends old new (outcome_line (Failed fault))
