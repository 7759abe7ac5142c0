-- A change that continues the rows has a step.
use Rattle.std.proofs.Common.{◌≡◌, ℕ, suc, ◌+◌, ◌<◌, ◌≤◌, true, false, cond, List, [], ◌∷◌, length}
use Rattle.std.proofs.Common.{map, Option, Some, None, refl, ap, ◌∙◌, arith}
use Rattle.std.specs.Prelude.{◌==◌, ◌&&◌, find, is_some, Result, Ok, Err, IfNone, IfOk}
use Rattle.std.specs.Option.{option_map}
use Rattle.std.specs.Str.{bytes_eq}
use Rattle.std.proofs.lemmas.Bool.Decides.{nat_tests}
use Rattle.std.proofs.lemmas.List.{length-map}
use Rattle.std.proofs.lemmas.Bool.{and_from}
use Rattle.desk_base.proofs.Bools.{and_left, and_right}
use Rattle.desk_model.specs.Keys.{is_duty, is_duty_of}
use Rattle.desk_model.specs.States.{is_open}
use Rattle.desk_model.specs.Tables.{Tables}
use Rattle.desk_model.specs.declared.row.ChangeRow.{ChangeRow}
use Rattle.desk_model.specs.declared.row.DutyRow.{DutyRow}
use Rattle.desk_model.specs.declared.row.ReleaseRow.{ReleaseRow}
use Rattle.desk_model.specs.declared.command.Change.{Change}
use Rattle.desk_model.specs.declared.command.Change.TheVariants as change
use Rattle.desk_history.specs.FromTables.{duty_found, release_found}
use Rattle.desk_access.specs.Follows.{Follows, are_numbered, are_of_duties, are_open_of}
use Rattle.desk_tally.specs.Stands.{are_duties, is_within, shift_of}
use Rattle.desk_tally.specs.Kept.{AreKept, CanRaise, HasStep, IsAstray, IsPlaceFor, are_raised, stand_of}
use Rattle.desk_tally.specs.declared.stand.Stand.{Stand}
use Rattle.desk_tally.specs.declared.stand.Step.{Step}
use Rattle.desk_tally.specs.declared.tallies.Tallies.{Tallies}
use Rattle.desk_tally.proofs.Bools.{within_from}

-- duties with consecutive numbers, of one release, and open
raised_from : (n : ℕ) (release : List ℕ) (rows : List DutyRow) → are_numbered n rows ≡ true
    → are_open_of release rows ≡ true → are_raised n release rows ≡ true
raised_from n release [] numbered fresh = refl
raised_from n release (row ∷ rows) numbered fresh =
    and_from ((row.number == n) && (bytes_eq row.release release && is_open row.state))
    (are_raised (n + 1) release rows)
    (and_from (row.number == n) (bytes_eq row.release release && is_open row.state)
    (and_left (row.number == n) (are_numbered (n + 1) rows) numbered)
    (and_left (is_duty_of release row && is_open row.state) (are_open_of release rows) fresh))
    (raised_from (n + 1) release rows
    (and_right (row.number == n) (are_numbered (n + 1) rows) numbered)
    (and_right (is_duty_of release row && is_open row.state) (are_open_of release rows) fresh))

-- a duty found among duties with the numbers n, n + 1 and so on has one of their numbers
pub found_within : (n q : ℕ) (rows : List DutyRow) → are_numbered n rows ≡ true
    → is_some (find (is_duty q) rows) ≡ true → (n ≤ q) × (q < n + length rows)
found_within n q [] numbered some = absurd (cc)
found_within n q (row ∷ rows) numbered some =
    let same : row.number ≡ n = let e =
    and_left (row.number == n) (are_numbered (n + 1) rows) numbered in grind (arith, nat_tests) in
    let rest = and_right (row.number == n) (are_numbered (n + 1) rows) numbered in
    elim (row.number == q) as (λ b. (row.number == q) ≡ b
    → is_some (cond b (Some row) (find (is_duty q) rows)) ≡ true
    → (n ≤ q) × (q < n + suc (length rows))) [
      | true ↦ λ e f. let at : row.number ≡ q = grind (arith, nat_tests) in
          (omega (arith, same, at), omega (arith, same, at))
      | false ↦ λ e f. let later = found_within (n + 1) q rows rest f in
          (omega (arith, later.0), omega (arith, later.1))
    ] refl some

-- changes of duties that exist
of_duties : (t : Tables) (rows : List ChangeRow) → are_numbered 1 t.duty ≡ true
    → are_of_duties t rows ≡ true → are_duties (length t.duty) (map shift_of rows) ≡ true
of_duties t [] numbered all = refl
of_duties t (row ∷ rows) numbered all =
    let at = found_within 1 row.duty t.duty numbered
    (and_left (is_some (duty_found t row.duty)) (are_of_duties t rows) all) in
    and_from (is_within (length t.duty) row.duty) (are_duties (length t.duty) (map shift_of rows))
    (within_from (length t.duty) row.duty at.0 (omega (arith, at.1)))
    (of_duties t rows numbered (and_right (is_some (duty_found t row.duty)) (are_of_duties t rows)
    all))

-- the place of a release that exists
placed : (found : Option ReleaseRow) → is_some found ≡ true
    → (at : ℕ) × (option_map (λ (row : ReleaseRow). row.place) found ≡ Some at)
placed None some = absurd (cc)
placed (Some row) some = (row.place, refl)

can_raise : (release : List ℕ) (duties : List DutyRow) (place : Option ℕ) (count at : ℕ)
    (all : List Stand) → place ≡ Some at → 1 ≤ at → at ≤ count → length all + length duties ≤ 100000
    → are_raised (length all + 1) release duties ≡ true → CanRaise release duties place count all
can_raise release duties None count at all is low high room raised = absurd (cc)
can_raise release duties (Some p) count at all is low high room raised = let same : p ≡ at = cc in
    (omega (arith, same, low), omega (arith, same, high), room, raised)

has_step : (c : Change) (place : Option ℕ) (tallies : Tallies) (t : Tables) → IsPlaceFor c place t
    → AreKept tallies t → Follows c t
    → HasStep c place (length tallies.tallies.items) tallies.stands.items
has_step (change.Opened row) place tallies t at kept follows = omega (arith, follows.0, kept.opened)
has_step (change.Froze release revision rows duties changes) place tallies t at kept follows =
    let found = placed (release_found t release) follows.3 in
    let within = kept.places.within release found.0 found.1 in
    let as_many : length tallies.stands.items ≡ length t.duty = ap length kept.stands
    ∙ length-map t.duty (stand_of t.releases) in
    can_raise release duties place (length tallies.tallies.items) found.0 tallies.stands.items
    (at ∙ found.1) within.0 (omega (arith, within.1, kept.opened))
    (omega (arith, as_many, follows.5))
    (raised_from (length tallies.stands.items + 1) release duties
    (ap (λ (n : ℕ). are_numbered (n + 1) duties) as_many ∙ follows.0) follows.4)
has_step (change.Moved rows) place tallies t at kept follows =
    ap (λ (n : ℕ). are_duties n (map shift_of rows))
    (ap length kept.stands ∙ length-map t.duty (stand_of t.releases))
    ∙ of_duties t rows kept.numbered follows.2
has_step (change.Withdrew release rows) place tallies t at kept follows =
    ap (λ (n : ℕ). are_duties n (map shift_of rows))
    (ap length kept.stands ∙ length-map t.duty (stand_of t.releases))
    ∙ of_duties t rows kept.numbered follows.2
has_step (change.Loaded row rules forms) place tallies t at kept follows = tt
has_step (change.Imported row packages references) place tallies t at kept follows = tt
has_step (change.Attached row) place tallies t at kept follows = tt
has_step (change.Chosen release document package_id rows) place tallies t at kept follows = tt
has_step (change.Concluded row) place tallies t at kept follows = tt
has_step (change.Adopted row) place tallies t at kept follows = tt

pub astray : {E : Type 0} (c : Change) (place : Option ℕ) (tallies : Tallies)
    (told : Result (Option Step) E)
    → IfOk told (λ found. IfNone found
    (HasStep c place (length tallies.tallies.items) tallies.stands.items → ⊥))
    → IfOk told (λ found. IfNone found (IsAstray c place tallies))
astray c place tallies (Err e) none = none
astray c place tallies (Ok (Some s)) none = none
astray c place tallies (Ok None) none = λ t at kept follows. none
    (has_step c place tallies t at kept follows)
