-- The numbers of duties by state.
use Rattle.std.specs.Prelude.{ℕ, Bool, if◌then◌else◌}
use Rattle.desk_model.specs.declared.state.DutyState.{DutyState}
use Rattle.desk_model.specs.declared.state.DutyState.TheVariants as stands
use Rattle.desk_model.specs.declared.command.Totals.{Totals}

-- what a duty adds to a count: 1 if it is counted, else 0
abbrev pub one_if : Bool → ℕ
one_if so = if so then 1 else 0

-- how many are in this state
abbrev pub number_of : DutyState → Totals → ℕ
number_of stands.IsOpen totals = totals.still_open
number_of stands.Met totals = totals.met
number_of stands.Waived totals = totals.waived
number_of stands.Withdrawn totals = totals.withdrawn
