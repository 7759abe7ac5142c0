-- How tallies relate to the rows of tables.
use Rattle.std.specs.Prelude.{◌≡◌, ◌<◌, ◌≤◌, ℕ, ◌+◌, ◌==◌, ◌&&◌, nat_le, Bool, true, false, List}
use Rattle.std.specs.Prelude.{[], ◌∷◌, length, find, map, Option, Some, None, unwrap_or, vec_len}
use Rattle.std.specs.Vec.{vec_capacity}
use Rattle.std.specs.Option.{option_map}
use Rattle.std.specs.Str.{bytes_eq}
use Rattle.desk_base.specs.Limits as most
use Rattle.desk_model.specs.Keys.{is_release}
use Rattle.desk_model.specs.States.{is_open}
use Rattle.desk_model.specs.Tables.{Tables}
use Rattle.desk_model.specs.declared.row.ChangeRow.{ChangeRow}
use Rattle.desk_model.specs.declared.row.DutyRow.{DutyRow}
use Rattle.desk_model.specs.declared.row.ReleaseRow.{ReleaseRow}
use Rattle.desk_model.specs.declared.command.Change.{Change}
use Rattle.desk_model.specs.declared.command.Change.TheVariants as change
use Rattle.desk_access.specs.Follows.{Follows, are_numbered}
use Rattle.desk_tally.specs.Stands.{are_duties, are_placed, are_places, stands_after, count_after, shift_of}
use Rattle.desk_tally.specs.declared.stand.Stand.{Stand}
use Rattle.desk_tally.specs.declared.stand.Step.{Step}
use Rattle.desk_tally.specs.declared.stand.Step.TheVariants as step
use Rattle.desk_tally.specs.declared.tallies.Tallies.{Tallies}

-- the place of the release with this name
abbrev pub place_found : List ReleaseRow → List ℕ → Option ℕ
place_found releases name = option_map (λ row. row.place) (find (is_release name) releases)

-- the place of a duty's release, 0 if there is no such release, and the duty's state
abbrev pub stand_of : List ReleaseRow → DutyRow → Stand
stand_of releases row = record {
  place = unwrap_or (place_found releases row.release) 0;
  state = row.state;
}

-- the places of releases are from 1 to their number, and no two releases have the same place
pub record ArePlaces (releases : List ReleaseRow) : Type 0 where
  pub within : (name : List ℕ) (place : ℕ) → place_found releases name ≡ Some place
      → (1 ≤ place) × (place ≤ length releases)
  pub apart : (name other : List ℕ) (place : ℕ) → place_found releases name ≡ Some place
      → place_found releases other ≡ Some place → name ≡ other

-- the number of releases, and the place and state of each duty, by number: what tallies keep of
-- these tables
pub record IsKept (count : ℕ) (all : List Stand) (t : Tables) : Type 0 where
  pub opened : count ≡ length t.releases
  pub stands : all ≡ map (stand_of t.releases) t.duty
  pub places : ArePlaces t.releases
  pub numbered : are_numbered 1 t.duty ≡ true

-- the tallies are those of these tables
abbrev pub AreKept : Tallies → Tables → Type 0
AreKept tallies t = IsKept (length tallies.tallies.items) tallies.stands.items t

-- after a step, they are those of these tables
abbrev pub LeadsTo : Step → Tallies → Tables → Type 0
LeadsTo s tallies t = IsKept (count_after s (length tallies.tallies.items))
    (stands_after s tallies.stands.items) t

-- there is room for a step, and its releases and duties exist
abbrev pub Fits : Step → Tallies → Type 0
Fits step.Stay tallies = Unit {0}
Fits step.Open tallies = vec_len tallies.tallies < vec_capacity tallies.tallies
Fits (step.Raise place count) tallies =
    (1 ≤ place) × (place ≤ length tallies.tallies.items)
    × (length tallies.stands.items + count ≤ most.duties)
    × (vec_len tallies.stands + count ≤ vec_capacity tallies.stands)
Fits (step.Move shifts) tallies = are_duties (length tallies.stands.items) shifts ≡ true

-- for a freeze, the place of its release
abbrev pub IsPlaceFor : Change → Option ℕ → Tables → Type 0
IsPlaceFor (change.Froze release revision rows duties changes) place t = place
    ≡ place_found t.releases release
IsPlaceFor _ place t = Unit {0}

-- new duties of a release, open, with the numbers n, n + 1 and so on
abbrev pub are_raised : ℕ → List ℕ → List DutyRow → Bool
are_raised n release [] = true
are_raised n release (row ∷ rows) = ((row.number == n)
    && (bytes_eq row.release release && is_open row.state)) && are_raised (n + 1) release rows

-- new duties of the release at a place, with the next numbers
pub record IsRaise (release : List ℕ) (duties : List DutyRow) (place : Option ℕ) (all : List Stand)
    (s : Step) : Type 0 where
  pub at : ℕ
  pub found : place ≡ Some at
  pub is : s ≡ step.Raise at (length duties)
  pub raised : are_raised (length all + 1) release duties ≡ true

-- moves of duties that exist
abbrev pub IsMove : List ChangeRow → List Stand → Step → Type 0
IsMove changes all s = (s ≡ step.Move (map shift_of changes))
    × (are_duties (length all) (map shift_of changes) ≡ true)

-- the step of a change, with this many releases
abbrev pub IsStep : Change → Option ℕ → ℕ → List Stand → Step → Type 0
IsStep (change.Opened row) place count all s = (s ≡ step.Open) × (row.place ≡ count + 1)
IsStep (change.Froze release revision rows duties changes) place count all s = IsRaise release
    duties place all s
IsStep (change.Moved changes) place count all s = IsMove changes all s
IsStep (change.Withdrew release changes) place count all s = IsMove changes all s
IsStep _ place count all s = s ≡ step.Stay

-- new duties can be raised for the release at a place, if there is one: they have the next numbers,
-- and there is room for them
abbrev pub CanRaise : List ℕ → List DutyRow → Option ℕ → ℕ → List Stand → Type 0
CanRaise release duties None count all = ⊥
CanRaise release duties (Some at) count all =
    (1 ≤ at) × (at ≤ count) × (length all + length duties ≤ most.duties)
    × (are_raised (length all + 1) release duties ≡ true)

-- a change has a step, with this many releases
abbrev pub HasStep : Change → Option ℕ → ℕ → List Stand → Type 0
HasStep (change.Opened row) place count all = row.place ≡ count + 1
HasStep (change.Froze release revision rows duties changes) place count all = CanRaise release
    duties place count all
HasStep (change.Moved changes) place count all = are_duties (length all) (map shift_of changes)
    ≡ true
HasStep (change.Withdrew release changes) place count all = are_duties (length all)
    (map shift_of changes) ≡ true
HasStep _ place count all = Unit {0}

-- the change continues no tables whose tallies these are
abbrev pub IsAstray : Change → Option ℕ → Tallies → Type 0
IsAstray c place tallies = (t : Tables) → IsPlaceFor c place t → AreKept tallies t → Follows c t → ⊥

-- what tallies are counted from: the places of the tables' releases, and the place and state of
-- each duty, by number
pub record AreCounted (places : List ℕ) (all : List Stand) (t : Tables) : Type 0 where
  pub releases : places ≡ map (λ row. row.place) t.releases
  pub stands : all ≡ map (stand_of t.releases) t.duty
  pub numbered : are_numbered 1 t.duty ≡ true

-- tallies can be counted from these: there are at most 100,000 duties, each of a release that has a
-- place, and the places are different, from 1 to their number
abbrev pub can_count : List ℕ → List Stand → Bool
can_count places all = nat_le (length all) most.duties
    && (are_placed (length places) all && are_places (length places) (λ place. false) places)

-- duties with the numbers 1, 2 and so on, each of a release that exists, at most 100,000; and
-- releases that have the places from 1 to their number
abbrev pub are_countable : List ReleaseRow → List DutyRow → Bool
are_countable releases duties = are_numbered 1 duties
    && can_count (map (λ row. row.place) releases) (map (stand_of releases) duties)
