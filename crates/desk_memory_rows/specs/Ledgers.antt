-- Duties in the order of their numbers, and changes grouped by duties.
use Rattle.std.specs.Prelude.{◌≡◌, ℕ, zero, suc, ◌++◌, ◌+◌, ◌-◌, ◌==◌, ◌&&◌, nat_le, nat_lt, Bool}
use Rattle.std.specs.Prelude.{true, List, [], ◌∷◌, length, filter, map, Option, None}
use Rattle.std.specs.List.{flat_map, list_all, last_or}
use Rattle.std.specs.Option.{option_and_then}
use Rattle.desk_model.specs.Lists.{updated}
use Rattle.desk_model.specs.Keys.{is_duty, is_change_of}
use Rattle.desk_model.specs.States.{state_after}
use Rattle.desk_model.specs.Moves.{has_ended}
use Rattle.desk_model.specs.Tables.{with_duty_state}
use Rattle.desk_model.specs.declared.row.Standing.{Standing}
use Rattle.desk_model.specs.declared.command.Change.{Change}
use Rattle.desk_model.specs.declared.command.Change.TheVariants as change
use Rattle.desk_access.specs.Follows.{are_first, are_numbered}
use Rattle.desk_memory_rows.specs.declared.ledger.Place.{Place}
use Rattle.desk_model.specs.declared.row.DutyRow.{DutyRow}
use Rattle.desk_model.specs.declared.row.ChangeRow.{ChangeRow}

-- the changes of duty n, their steps going up by one from k
abbrev pub stepped : ℕ → ℕ → List ChangeRow → Bool
stepped n k [] = true
stepped n k (row ∷ rows) = ((row.duty == n) && (row.step == k)) && stepped n (k + 1) rows

-- the changes of duty n, of duty n + 1, and so on
abbrev pub grouped : ℕ → List (List ChangeRow) → Bool
grouped n [] = true
grouped n (group ∷ groups) = stepped n 1 group && grouped (n + 1) groups

-- all changes, group after group
abbrev pub all_of : List (List ChangeRow) → List ChangeRow
all_of groups = flat_map (λ group. group) groups

-- the groups, with one more row in the one at a place
abbrev pub more_at : List (List ChangeRow) → ℕ → ChangeRow → List (List ChangeRow)
more_at [] i row = []
more_at (g ∷ gs) zero row = (g ++ row ∷ []) ∷ gs
more_at (g ∷ gs) (suc i) row = g ∷ more_at gs i row

-- the changes, each in a group of its own, grouped from n
abbrev pub AreSingles : ℕ → List ChangeRow → List (List ChangeRow) → Type 0
AreSingles n changes groups = (grouped n groups ≡ true) × (all_of groups ≡ changes)
    × (length groups ≡ length changes)

-- among all changes of this many duties the next one of its own duty, whose number is above n
abbrev pub is_in_turn : ℕ → ℕ → List ChangeRow → ChangeRow → Bool
is_in_turn n count all row =
    nat_lt n row.duty && (nat_le row.duty count
    && (row.step == length (filter (is_change_of row.duty) all) + 1))

-- the next ones of their duties, by rising numbers above n
abbrev pub are_in_turn : ℕ → ℕ → List ChangeRow → List ChangeRow → Bool
are_in_turn n count all [] = true
are_in_turn n count all (row ∷ rows) = is_in_turn n count all row
    && are_in_turn row.duty count all rows

-- duties with the numbers that follow this many, each with its first change
abbrev pub can_append : ℕ → List DutyRow → List ChangeRow → Bool
can_append count duties changes = are_numbered (count + 1) duties
    && (are_first (count + 1) changes && (length changes == length duties))

-- the duties and changes of a change follow these duties and groups
abbrev pub can_take : Change → List DutyRow → List (List ChangeRow) → Bool
can_take (change.Froze release revision rows new changes) duties groups = can_append (length duties)
    new changes
can_take (change.Moved changes) duties groups = are_in_turn 0 (length groups) (all_of groups)
    changes
can_take (change.Withdrew release changes) duties groups = are_in_turn 0 (length groups)
    (all_of groups) changes
can_take _ duties groups = true

-- the groups with each change after the others of its duty, the last one first
abbrev pub pushed : List ChangeRow → List (List ChangeRow) → List (List ChangeRow)
pushed [] groups = groups
pushed (row ∷ rows) groups = more_at (pushed rows groups) (row.duty - 1) row

-- the state in which a change leaves its duty
abbrev pub place_of : ChangeRow → Place
place_of row = record { duty = row.duty; state = state_after row.word }

-- a duty's number is from 1 to this many
abbrev pub is_within : ℕ → Place → Bool
is_within count place = nat_le 1 place.duty && nat_le place.duty count

-- they are states of this many duties
abbrev pub AreWithin : ℕ → List Place → Type 0
AreWithin count places = list_all (is_within count) places ≡ true

-- the states in which changes of this many duties leave them
abbrev pub ArePlaces : ℕ → List ChangeRow → List Place → Type 0
ArePlaces count changes places = (map place_of changes ≡ places) × AreWithin count places

-- the duties in these states, the last one set first
abbrev pub standing_by : List Place → List DutyRow → List DutyRow
standing_by [] rows = rows
standing_by (place ∷ places) rows = updated (is_duty place.duty) (with_duty_state place.state)
    (standing_by places rows)

-- the last day of the last change
abbrev pub end_in : List ChangeRow → Option (List ℕ)
end_in rows = option_and_then (λ change. change.last_day) (last_or None rows)

-- a duty with these changes is waived until a day before this one
abbrev pub ends_in : List ChangeRow → List ℕ → DutyRow → Bool
ends_in changes day row = has_ended day row.state
    (end_in (filter (is_change_of row.number) changes))

-- the state of a duty with these changes, and how many they are
abbrev pub standing_in : List ChangeRow → DutyRow → Standing
standing_in changes row = record {
  number = row.number;
  state = row.state;
  steps = length (filter (is_change_of row.number) changes);
}
