-- The place and state of each duty, by number: what is counted of them, and what each step does to
-- them.
use Rattle.std.specs.Prelude.{◌≡◌, ℕ, zero, suc, ◌+◌, ◌-◌, ◌==◌, ◌&&◌, ◌||◌, not, nat_le, Bool}
use Rattle.std.specs.Prelude.{true, List, [], ◌∷◌, ◌++◌, replicate, count_by, Some, slice_get}
use Rattle.std.specs.List.{list_all}
use Rattle.desk_model.specs.States.{is_open, is_met, is_waived, is_withdrawn, state_after}
use Rattle.desk_model.specs.declared.state.DutyState.{DutyState}
use Rattle.desk_model.specs.declared.state.DutyState.TheVariants.{IsOpen}
use Rattle.desk_model.specs.declared.row.ChangeRow.{ChangeRow}
use Rattle.desk_model.specs.declared.command.Totals.{Totals}
use Rattle.desk_tally.specs.Totals.{totals_in}
use Rattle.desk_tally.specs.declared.stand.Stand.{Stand}
use Rattle.desk_tally.specs.declared.stand.Shift.{Shift}
use Rattle.desk_tally.specs.declared.stand.Step.{Step}
use Rattle.desk_tally.specs.declared.stand.Step.TheVariants as step
use Rattle.desk_tally.specs.declared.tally.Tally.{Tally}

-- a duty of the release at a place
abbrev pub is_of : ℕ → Stand → Bool
is_of place stand = stand.place == place

-- whether a duty is of the release at a place, and its state passes a test
abbrev pub is_in : ℕ → (DutyState → Bool) → Stand → Bool
is_in place test stand = is_of place stand && test stand.state

-- how many duties the release at a place has, and how many of them are in each state
abbrev pub totals_at : ℕ → List Stand → Totals
totals_at place all = record {
  raised = count_by (is_of place) all;
  still_open = count_by (is_in place is_open) all;
  met = count_by (is_in place is_met) all;
  waived = count_by (is_in place is_waived) all;
  withdrawn = count_by (is_in place is_withdrawn) all;
}

-- each tally has the counts of its place; places start at 1
abbrev pub AreTallied : List Stand → List Tally → Type 0
AreTallied all tallies = (i : ℕ) (tally : Tally) → slice_get tallies i ≡ Some tally
    → totals_in tally ≡ totals_at (i + 1) all

-- a number from 1 to a count
abbrev pub is_within : ℕ → ℕ → Bool
is_within count n = nat_le 1 n && nat_le n count

-- the place of each duty's release is from 1 to the count
abbrev pub are_placed : ℕ → List Stand → Bool
are_placed count all = list_all (λ stand. is_within count stand.place) all

-- different places from 1 to a count, none of which was taken before
abbrev pub are_places : ℕ → (ℕ → Bool) → List ℕ → Bool
are_places count taken [] = true
are_places count taken (place ∷ places) = is_within count place
    && (not (taken place) && are_places count (λ other. (other == place) || taken other) places)

-- a duty as it is raised for the release at a place
abbrev pub open_at : ℕ → Stand
open_at place = record { place = place; state = IsOpen }

-- the duty at an index is in this state
abbrev pub at_state : ℕ → DutyState → List Stand → List Stand
at_state i state [] = []
at_state zero state (stand ∷ all) = (record stand { state = state }) ∷ all
at_state (suc i) state (stand ∷ all) = stand ∷ at_state i state all

-- each of these duties is put into its state, the last one first
abbrev pub shifted : List Shift → List Stand → List Stand
shifted [] all = all
shifted (shift ∷ shifts) all = at_state (shift.duty - 1) shift.state (shifted shifts all)

-- each duty that is moved is one of this many, numbered from 1
abbrev pub are_duties : ℕ → List Shift → Bool
are_duties count shifts = list_all (λ shift. is_within count shift.duty) shifts

-- the duty of a change, and the state in which the change leaves it
abbrev pub shift_of : ChangeRow → Shift
shift_of row = record { duty = row.duty; state = state_after row.word }

-- after a step: raised duties come at the end, with the next numbers; a release that is opened has
-- none
abbrev pub stands_after : Step → List Stand → List Stand
stands_after (step.Raise place count) all = all ++ replicate count (open_at place)
stands_after (step.Move shifts) all = shifted shifts all
stands_after _ all = all

-- how many releases there are after a step
abbrev pub count_after : Step → ℕ → ℕ
count_after step.Open count = count + 1
count_after _ count = count
