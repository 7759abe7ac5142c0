-- When a release is ready: it is frozen, and no duty of it is left to be met or waived.
use Rattle.std.specs.Prelude.{Bool, true, false, List, [], ◌∷◌, ℕ, Option, Some, None, is_some}
use Rattle.std.specs.Option.{option_map_or, option_and_then}
use Rattle.desk_base.specs.Day.{is_day}
use Rattle.desk_model.specs.Moves.{is_over}
use Rattle.desk_model.specs.Answers.{refused_first, unless}
use Rattle.desk_model.specs.declared.refusal.Refusal.{Refusal}
use Rattle.desk_model.specs.declared.refusal.Refusal.TheVariants as why
use Rattle.desk_model.specs.declared.state.DutyState.{DutyState}
use Rattle.desk_model.specs.declared.state.DutyState.TheVariants as stands
use Rattle.desk_model.specs.declared.state.ReleaseState.{ReleaseState}
use Rattle.desk_model.specs.declared.state.ReleaseState.TheVariants as release
use Rattle.desk_model.specs.declared.command.DutyLine.{DutyLine}
use Rattle.desk_model.specs.declared.command.Answer.{Answer}
use Rattle.desk_model.specs.declared.command.Answer.TheVariants as answered

-- a duty keeps its release back: it is open, or its waiver is over on the day, if one is given
abbrev pub keeps_back : Option (List ℕ) → DutyState → Option (List ℕ) → Bool
keeps_back day stands.IsOpen end = true
keeps_back day stands.Waived end = option_map_or (λ d. is_over d end) day false
keeps_back day _ end = false

-- only a frozen release can be ready
abbrev pub unfrozen : ReleaseState → Option Refusal
unfrozen release.Frozen = None
unfrozen state = Some (why.ReleaseState state)

-- the duties that keep a release in this state back, for a day if one is given
abbrev pub ready_answer : Option (List ℕ) → Option ReleaseState → List DutyLine → Answer
ready_answer day state kept = refused_first (
    unless (option_map_or is_day day true) why.BadDay
    ∷ unless (is_some state) why.UnknownRelease
    ∷ option_and_then unfrozen state
    ∷ []) (answered.Duties kept)
