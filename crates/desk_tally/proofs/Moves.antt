-- Duties that are moved and raised, and their places and states.
use Rattle.std.proofs.Common.{◌≡◌, ℕ, zero, suc, ◌+◌, ◌-◌, ◌<◌, ◌≤◌, true, false, List, [], ◌∷◌}
use Rattle.std.proofs.Common.{◌++◌, length, map, replicate, Some, refl, ap, ◌∙◌, arith, subst}
use Rattle.std.specs.Prelude.{if◌then◌else◌, ◌&&◌, ◌==◌, unwrap_or}
use Rattle.std.specs.Str.{bytes_eq}
use Rattle.std.proofs.lemmas.Bool.Decides.{nat_tests}
use Rattle.std.proofs.lemmas.Bool.{and_from}
use Rattle.desk_model.specs.Lists.{updated}
use Rattle.desk_model.specs.Keys.{is_duty}
use Rattle.desk_model.specs.States.{is_open, state_after}
use Rattle.desk_model.specs.Tables.{moved_by, with_duty_state}
use Rattle.desk_model.specs.declared.row.ReleaseRow.{ReleaseRow}
use Rattle.desk_model.specs.declared.row.DutyRow.{DutyRow}
use Rattle.desk_model.specs.declared.row.ChangeRow.{ChangeRow}
use Rattle.desk_model.specs.declared.state.DutyState.{DutyState}
use Rattle.desk_model.specs.declared.state.DutyState.TheVariants.{IsOpen, Met, Waived, Withdrawn}
use Rattle.desk_access.specs.Follows.{are_numbered}
use Rattle.desk_tally.specs.Stands.{is_within, at_state, shifted, are_duties, shift_of, open_at}
use Rattle.desk_tally.specs.Kept.{place_found, stand_of, are_raised}
use Rattle.desk_tally.specs.declared.stand.Stand.{Stand}
use Rattle.desk_tally.proofs.Bools.{within_low}
use Rattle.desk_base.proofs.Numbers.{numbers_equal}
use Rattle.desk_base.proofs.Bools.{and_left, and_right}
use Rattle.desk_base.proofs.Texts.{texts_equal}

-- no duty has a number below the first
pub updated_none : (change : DutyRow → DutyRow) (q n : ℕ) (rows : List DutyRow)
    → are_numbered n rows ≡ true → q < n → updated (is_duty q) change rows ≡ rows
updated_none change q n [] e below = refl
updated_none change q n (row ∷ rows) e below =
    let here : row.number ≡ n = numbers_equal row.number n
    (and_left (row.number == n) (are_numbered (n + 1) rows) e) in
    let differ : (row.number == q) ≡ false = grind (arith, nat_tests) in
    rw (
      differ,
      updated_none change q (n + 1) rows (and_right (row.number == n) (are_numbered (n + 1) rows) e)
          (omega arith),
    ) refl

-- the duty at an index is put into a state
state_at : (releases : List ReleaseRow) (state : DutyState) (n i : ℕ) (rows : List DutyRow)
    → are_numbered n rows ≡ true
    → map (stand_of releases) (updated (is_duty (n + i)) (with_duty_state state) rows)
    ≡ at_state i state (map (stand_of releases) rows)
state_at releases state n i [] e = refl
state_at releases state n zero (row ∷ rows) e =
    let here : row.number ≡ n = numbers_equal row.number n
    (and_left (row.number == n) (are_numbered (n + 1) rows) e) in
    let same : (row.number == n + 0) ≡ true = grind (arith, nat_tests) in
    rw (
      same,
      updated_none (with_duty_state state) (n + 0) (n + 1) rows
          (and_right (row.number == n) (are_numbered (n + 1) rows) e) (omega arith),
    ) refl
state_at releases state n (suc i) (row ∷ rows) e =
    let here : row.number ≡ n = numbers_equal row.number n
    (and_left (row.number == n) (are_numbered (n + 1) rows) e) in
    let differ : (row.number == n + suc i) ≡ false = grind (arith, nat_tests) in
    let next : n + suc i ≡ n + 1 + i = omega arith in
    rw differ (ap (λ all. stand_of releases row ∷ all)
    (ap (λ k. map (stand_of releases) (updated (is_duty k) (with_duty_state state) rows)) next
    ∙ state_at releases state (n + 1) i rows
    (and_right (row.number == n) (are_numbered (n + 1) rows) e)))

numbered-updated : (state : DutyState) (q n : ℕ) (rows : List DutyRow) → are_numbered n rows ≡ true
    → are_numbered n (updated (is_duty q) (with_duty_state state) rows) ≡ true
numbered-updated state q n [] e = refl
numbered-updated state q n (row ∷ rows) e =
    let here : (row.number == n) ≡ true =
    and_left (row.number == n) (are_numbered (n + 1) rows) e in
    let rest = numbered-updated state q (n + 1) rows
    (and_right (row.number == n) (are_numbered (n + 1) rows) e) in
    elim (row.number == q) as (λ b. are_numbered n
    ((if b then with_duty_state state row else row)
    ∷ updated (is_duty q) (with_duty_state state) rows) ≡ true) [
      | true ↦ and_from (row.number == n)
          (are_numbered (n + 1) (updated (is_duty q) (with_duty_state state) rows)) here rest
      | false ↦ and_from (row.number == n)
          (are_numbered (n + 1) (updated (is_duty q) (with_duty_state state) rows)) here rest
    ]

pub numbered-moved : (changes : List ChangeRow) (n : ℕ) (rows : List DutyRow)
    → are_numbered n rows ≡ true → are_numbered n (moved_by changes rows) ≡ true
numbered-moved [] n rows e = e
numbered-moved (change ∷ changes) n rows e = numbered-updated (state_after change.word) change.duty
    n (moved_by changes rows) (numbered-moved changes n rows e)

-- the duties that changes move have the states that the shifts give them
pub stands-moved : (releases : List ReleaseRow) (count : ℕ) (changes : List ChangeRow)
    (rows : List DutyRow) → are_numbered 1 rows ≡ true
    → are_duties count (map shift_of changes) ≡ true
    → map (stand_of releases) (moved_by changes rows)
    ≡ shifted (map shift_of changes) (map (stand_of releases) rows)
stands-moved releases count [] rows e within = refl
stands-moved releases count (change ∷ changes) rows e within =
    let low : 1 ≤ change.duty = within_low count change.duty
    (and_left (is_within count change.duty) (are_duties count (map shift_of changes)) within) in
    let index : change.duty ≡ 1 + (change.duty - 1) = omega arith in
    let rest = stands-moved releases count changes rows e
    (and_right (is_within count change.duty) (are_duties count (map shift_of changes)) within) in
    ap (λ k. map (stand_of releases)
    (updated (is_duty k) (with_duty_state (state_after change.word)) (moved_by changes rows))) index
    ∙ (state_at releases (state_after change.word) 1 (change.duty - 1) (moved_by changes rows)
    (numbered-moved changes 1 rows e)
    ∙ ap (at_state (change.duty - 1) (state_after change.word)) rest)

-- new duties

pub numbered-append : (n : ℕ) (rows more : List DutyRow) → are_numbered n rows ≡ true
    → are_numbered (n + length rows) more ≡ true → are_numbered n (rows ++ more) ≡ true
numbered-append n [] more e f = subst (λ k. are_numbered k more ≡ true)
    (let z : n + 0 ≡ n = omega arith in z) f
numbered-append n (row ∷ rows) more e f =
    and_from (row.number == n) (are_numbered (n + 1) (rows ++ more))
    (and_left (row.number == n) (are_numbered (n + 1) rows) e)
    (numbered-append (n + 1) rows more (and_right (row.number == n) (are_numbered (n + 1) rows) e)
    (subst (λ k. are_numbered k more ≡ true)
    (let z : n + suc (length rows) ≡ n + 1 + length rows = omega arith in z) f))

pub raised_numbered : (n : ℕ) (release : List ℕ) (rows : List DutyRow)
    → are_raised n release rows ≡ true → are_numbered n rows ≡ true
raised_numbered n release [] e = refl
raised_numbered n release (row ∷ rows) e =
    let here = and_left ((row.number == n) && (bytes_eq row.release release && is_open row.state))
    (are_raised (n + 1) release rows) e in
    and_from (row.number == n) (are_numbered (n + 1) rows)
    (and_left (row.number == n) (bytes_eq row.release release && is_open row.state) here)
    (raised_numbered (n + 1) release rows
    (and_right ((row.number == n) && (bytes_eq row.release release && is_open row.state))
    (are_raised (n + 1) release rows) e))

open_only : (state : DutyState) → is_open state ≡ true → state ≡ IsOpen
open_only IsOpen e = refl
open_only Met e = cc
open_only Waived e = cc
open_only Withdrawn e = cc

pub stands-raised : (releases : List ReleaseRow) (release : List ℕ) (place n : ℕ)
    (rows : List DutyRow) → place_found releases release ≡ Some place
    → are_raised n release rows ≡ true
    → map (stand_of releases) rows ≡ replicate (length rows) (open_at place)
stands-raised releases release place n [] found e = refl
stands-raised releases release place n (row ∷ rows) found e =
    let here = and_left ((row.number == n) && (bytes_eq row.release release && is_open row.state))
    (are_raised (n + 1) release rows) e in
    let both_are = and_right (row.number == n) (bytes_eq row.release release && is_open row.state)
    here in
    let name : row.release ≡ release =
    texts_equal row.release release
    (and_left (bytes_eq row.release release) (is_open row.state) both_are) in
    let state : row.state ≡ IsOpen =
    open_only row.state (and_right (bytes_eq row.release release) (is_open row.state) both_are) in
    let at : unwrap_or (place_found releases row.release) 0 ≡ place =
    ap (λ r. unwrap_or (place_found releases r) 0) name ∙ ap (λ o. unwrap_or o 0) found in
    let rest = stands-raised releases release place (n + 1) rows found
    (and_right ((row.number == n) && (bytes_eq row.release release && is_open row.state))
    (are_raised (n + 1) release rows) e) in
    λ i. (let stand : Stand = record { place = at i; state = state i } in stand) ∷ rest i
