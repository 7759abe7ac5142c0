-- Which changes continue the rows of some tables. A store promises nothing for any other change.
use Rattle.std.specs.Prelude.{◌≡◌, ℕ, ◌+◌, ◌≤◌, Bool, true, false, ◌==◌, ◌&&◌, nat_lt, List, []}
use Rattle.std.specs.Prelude.{◌∷◌, length, map, is_some}
use Rattle.std.specs.List.{list_all}
use Rattle.desk_model.specs.Tables.{Tables}
use Rattle.desk_model.specs.declared.row.DutyRow.{DutyRow}
use Rattle.desk_model.specs.declared.row.ChangeRow.{ChangeRow}
use Rattle.desk_model.specs.declared.command.Change.{Change}
use Rattle.desk_model.specs.declared.command.Change.TheVariants as change
use Rattle.desk_base.specs.Limits as most
use Rattle.desk_model.specs.Keys.{is_choice_of, is_duty_of}
use Rattle.desk_model.specs.States.{is_open}
use Rattle.desk_history.specs.FromTables.{steps_found, duty_found, release_found}

-- the duties have the numbers n, n + 1 and so on
abbrev pub are_numbered : ℕ → List DutyRow → Bool
are_numbered n [] = true
are_numbered n (row ∷ rows) = (row.number == n) && are_numbered (n + 1) rows

-- each change is the first of its duty, and the duties have the numbers n, n + 1 and so on
abbrev pub are_first : ℕ → List ChangeRow → Bool
are_first n [] = true
are_first n (row ∷ rows) = (row.duty == n) && (row.step == 1) && are_first (n + 1) rows

-- each number is less than all that follow it
abbrev pub rise : List ℕ → Bool
rise [] = true
rise (n ∷ ns) = list_all (nat_lt n) ns && rise ns

-- each change is the next step of its duty
abbrev pub are_next : Tables → List ChangeRow → Bool
are_next t rows = list_all (λ row. row.step == steps_found t row.duty + 1) rows

-- each change is of a duty that exists
abbrev pub are_of_duties : Tables → List ChangeRow → Bool
are_of_duties t rows = list_all (λ row. is_some (duty_found t row.duty)) rows

-- Changes of duties that exist, each the next step of its duty. If the numbers of the duties in the
-- tables increase, so do the numbers of the duties changed.
abbrev pub AreNext : Tables → List ChangeRow → Type 0
AreNext t rows =
    (are_next t rows ≡ true) × (rise (map (λ row. row.number) t.duty) ≡ true
    → rise (map (λ row. row.duty) rows) ≡ true)
    × (are_of_duties t rows ≡ true)

-- each duty is a duty of the release, and open
abbrev pub are_open_of : List ℕ → List DutyRow → Bool
are_open_of release rows = list_all (λ row. is_duty_of release row && is_open row.state) rows

-- a release has the name
abbrev pub has_release : Tables → List ℕ → Bool
has_release t name = is_some (release_found t name)

-- A new revision, document or release has the next number, and a new release a name that no other
-- has. Choices are for one package in a release that exists. New duties are open duties of a
-- release that exists, have the next numbers, each with its first change, and with them there are
-- at most as many duties as the limit allows. A change of a duty that exists is its next step.
abbrev pub Follows : Change → Tables → Type 0
Follows (change.Loaded row rules forms) t = row.revision ≡ length t.catalogue + 1
Follows (change.Imported row packages references) t = row.number ≡ length t.document + 1
Follows (change.Opened row) t = (row.place ≡ length t.releases + 1)
    × (has_release t row.name ≡ false)
Follows (change.Chosen release document package_id rows) t =
    (has_release t release ≡ true)
    × (list_all (is_choice_of release document package_id) rows ≡ true)
Follows (change.Froze release revision rows duties changes) t =
    (are_numbered (length t.duty + 1) duties ≡ true)
    × (are_first (length t.duty + 1) changes ≡ true) × (length changes ≡ length duties)
    × (has_release t release ≡ true) × (are_open_of release duties ≡ true)
    × (length t.duty + length duties ≤ most.duties)
Follows (change.Moved rows) t = AreNext t rows
Follows (change.Withdrew release rows) t = AreNext t rows
Follows _ t = Unit {0}
