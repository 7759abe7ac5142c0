-- The states of duties.
use Rattle.std.specs.Prelude.{Bool, true, false}
use Rattle.desk_model.specs.declared.state.DutyState.{DutyState}
use Rattle.desk_model.specs.declared.state.DutyState.TheVariants as stands
use Rattle.desk_model.specs.declared.state.Word.{Word}
use Rattle.desk_model.specs.declared.state.Word.TheVariants as word

-- not yet met, waived or withdrawn
abbrev pub is_open : DutyState → Bool
is_open stands.IsOpen = true
is_open _ = false

-- done, with evidence
abbrev pub is_met : DutyState → Bool
is_met stands.Met = true
is_met _ = false

-- let off, perhaps up to a last day
abbrev pub is_waived : DutyState → Bool
is_waived stands.Waived = true
is_waived _ = false

-- gone with its release
abbrev pub is_withdrawn : DutyState → Bool
is_withdrawn stands.Withdrawn = true
is_withdrawn _ = false

-- the state in which a change with this word leaves a duty
abbrev pub state_after : Word → DutyState
state_after word.Raised = stands.IsOpen
state_after word.Met = stands.Met
state_after word.Waived = stands.Waived
state_after word.Reopened = stands.IsOpen
state_after word.Withdrawn = stands.Withdrawn
state_after word.Ended = stands.IsOpen

-- the states from which a duty can be met, waived and reopened
abbrev pub goes_from : Word → DutyState → Bool
goes_from word.Met state = is_open state
goes_from word.Waived state = is_open state
goes_from word.Reopened stands.Met = true
goes_from word.Reopened stands.Waived = true
goes_from _ _ = false
