-- Judges rows one by one by the conditions of an audit.
use Rattle.std.proofs.Common.{◌≡◌, ℕ, ◌+◌, Bool, true, false, List, [], ◌∷◌, map, filter, Some, None, refl, sym}
use Rattle.std.proofs.lemmas.Bool.{and_from}
use Rattle.std.specs.Prelude.{ℤ, pos, ◌&&◌}
use Rattle.std.specs.List.{list_all, AllByRecursion}
use Rattle.std.specs.Ordering.{int_eq}
use Rattle.std.specs.Cmp.{signed_Decides}
use Rattle.std.specs.Prelude.{nat_le, length, MatchBool}
use Rattle.desk_base.proofs.Bools.{and_left, and_right, contrary}
use Rattle.desk_snapshot.specs.Conditions.{AreChanges, AreNumbered, was_frozen}
use Rattle.desk_snapshot.specs.Changes.{AreChangesOf, are_moves, go_on, is_formed, is_raising}
use Rattle.desk_snapshot.specs.Changes.{is_waived, is_within, last_change, leaves}
use Rattle.desk_snapshot.specs.Rows.{AreFrom, is_change_of}
use Rattle.desk_snapshot.specs.declared.rows.StoredChange.{StoredChange}
use Rattle.desk_snapshot.specs.declared.rows.StoredDuty.{StoredDuty}
use Rattle.desk_snapshot.specs.declared.snapshot.Snapshot.{Snapshot}
use Rattle.desk_audit.specs.Walks.{count_from, follows, is_next, lead}

same_number : (m n : ℤ) → int_eq m n ≡ true → m ≡ n
same_number m n e = (signed_Decides m n).0 e

number_same : (m n : ℤ) → m ≡ n → int_eq m n ≡ true
number_same m n e = (signed_Decides m n).1 e

pub from_count : (n : ℕ) (rows : List StoredDuty) → count_from n rows ≡ true
    → AreFrom n (map (λ row. row.number) rows)
from_count n [] e = tt
from_count n (row ∷ rows) e = (
  same_number row.number (pos n) (and_left (int_eq row.number (pos n)) (count_from (n + 1) rows) e),
  from_count (n + 1) rows (and_right (int_eq row.number (pos n)) (count_from (n + 1) rows) e),
)

pub to_count : (n : ℕ) (rows : List StoredDuty) → AreFrom n (map (λ row. row.number) rows)
    → count_from n rows ≡ true
to_count n [] h = refl
to_count n (row ∷ rows) h =
    and_from (int_eq row.number (pos n)) (count_from (n + 1) rows)
    (number_same row.number (pos n) h.0)
    (to_count (n + 1) rows h.1)

module _ (s : Snapshot) (state : List ℕ) where
  -- what a run of changes is after one of them
  record Leads (before : StoredChange) (n : ℕ) (rows : List StoredChange) : Type 0 where
    steps : AreFrom n (map (λ row. row.step) rows)
    formed : list_all is_formed rows ≡ true
    goes : go_on s before rows ≡ true
    ends : leaves state (last_change before rows) ≡ true

  leads : (before : StoredChange) (n : ℕ) (rows : List StoredChange)
      → lead s state (Some before) n rows ≡ true
      → Leads before n rows
  leads before n [] e = record { steps = tt; formed = refl; goes = refl; ends = e }
  leads before n (row ∷ rows) e =
      let here = and_left (is_next s (Some before) n row) (lead s state (Some row) (n + 1) rows)
      e in
      let more = leads row (n + 1) rows
      (and_right (is_next s (Some before) n row) (lead s state (Some row) (n + 1) rows) e) in
      let rest = and_right (int_eq row.step (pos n)) (is_formed row && follows s (Some before) row)
      here in
      record {
        steps = (
          same_number row.step (pos n) (and_left (int_eq row.step (pos n))
              (is_formed row && follows s (Some before) row) here),
          more.steps,
        );
        formed = and_from (is_formed row) (list_all is_formed rows)
            (and_left (is_formed row) (follows s (Some before) row) rest) more.formed;
        goes = and_from (follows s (Some before) row) (go_on s row rows)
            (and_right (is_formed row) (follows s (Some before) row) rest) more.goes;
        ends = more.ends;
      }

  led : (before : StoredChange) (n : ℕ) (rows : List StoredChange) → Leads before n rows
      → lead s state (Some before) n rows ≡ true
  led before n [] h = h.ends
  led before n (row ∷ rows) h =
      let next = and_from (int_eq row.step (pos n)) (is_formed row && follows s (Some before) row)
      (number_same row.step (pos n) h.steps.0)
      (and_from (is_formed row) (follows s (Some before) row)
      (and_left (is_formed row) (list_all is_formed rows) h.formed)
      (and_left (follows s (Some before) row) (go_on s row rows) h.goes)) in
      and_from (is_next s (Some before) n row) (lead s state (Some row) (n + 1) rows) next
      (led row (n + 1) rows (record {
        steps = h.steps.1;
        formed = and_right (is_formed row) (list_all is_formed rows) h.formed;
        goes = and_right (follows s (Some before) row) (go_on s row rows) h.goes;
        ends = h.ends;
      }))

abbrev changes_of : Snapshot → StoredDuty → List StoredChange
changes_of s duty = filter (is_change_of duty.number) s.changes

pub record AreMoves (s : Snapshot) (state : List ℕ) (rows : List StoredChange) : Type 0 where
  pub steps : AreFrom 1 (map (λ row. row.step) rows)
  pub formed : list_all is_formed rows ≡ true
  pub moves : are_moves s state rows ≡ true

to_moves : (s : Snapshot) (state : List ℕ) (rows : List StoredChange)
    → lead s state None 1 rows ≡ true → AreMoves s state rows
to_moves s state [] e = cc
to_moves s state (row ∷ rows) e =
    let here = and_left (is_next s None 1 row) (lead s state (Some row) 2 rows) e in
    let more = leads s state row 2 rows
    (and_right (is_next s None 1 row) (lead s state (Some row) 2 rows) e) in
    let rest = and_right (int_eq row.step (pos 1)) (is_formed row && is_raising row) here in
    record {
      steps = (
        same_number row.step (pos 1) (and_left (int_eq row.step (pos 1))
            (is_formed row && is_raising row) here),
        more.steps,
      );
      formed = and_from (is_formed row) (list_all is_formed rows)
          (and_left (is_formed row) (is_raising row) rest) more.formed;
      moves = and_from (is_raising row) (go_on s row rows && leaves state (last_change row rows))
          (and_right (is_formed row) (is_raising row) rest)
          (and_from (go_on s row rows) (leaves state (last_change row rows)) more.goes more.ends);
    }

from_moves : (s : Snapshot) (state : List ℕ) (rows : List StoredChange) → AreMoves s state rows
    → lead s state None 1 rows ≡ true
from_moves s state [] h = h.moves
from_moves s state (row ∷ rows) h =
    let later = and_right (is_raising row) (go_on s row rows && leaves state (last_change row rows))
    h.moves in
    let next = and_from (int_eq row.step (pos 1)) (is_formed row && is_raising row)
    (number_same row.step (pos 1) h.steps.0)
    (and_from (is_formed row) (is_raising row)
    (and_left (is_formed row) (list_all is_formed rows) h.formed)
    (and_left (is_raising row) (go_on s row rows && leaves state (last_change row rows))
    h.moves)) in
    and_from (is_next s None 1 row) (lead s state (Some row) 2 rows) next
    (led s state row 2 rows (record {
      steps = h.steps.1;
      formed = and_right (is_formed row) (list_all is_formed rows) h.formed;
      goes = and_left (go_on s row rows) (leaves state (last_change row rows)) later;
      ends = and_right (go_on s row rows) (leaves state (last_change row rows)) later;
    }))

abbrev pub leads_to : Snapshot → StoredDuty → Bool
leads_to s duty = lead s duty.state None 1 (changes_of s duty)

pub each_led : (s : Snapshot) (duties : List StoredDuty) → list_all (leads_to s) duties ≡ true
    → AllByRecursion (AreChangesOf s) duties
each_led s [] e = tt
each_led s (duty ∷ duties) e =
    let these = to_moves s duty.state (changes_of s duty)
    (and_left (leads_to s duty) (list_all (leads_to s) duties) e) in (
      record { steps = these.steps; formed = these.formed; moves = these.moves },
      each_led s duties (and_right (leads_to s duty) (list_all (leads_to s) duties) e),
    )

pub led_each : (s : Snapshot) (duties : List StoredDuty) → AllByRecursion (AreChangesOf s) duties
    → list_all (leads_to s) duties ≡ true
led_each s [] h = refl
led_each s (duty ∷ duties) h =
    and_from (leads_to s duty) (list_all (leads_to s) duties)
    (from_moves s duty.state (changes_of s duty)
    (record { steps = h.0.steps; formed = h.0.formed; moves = h.0.moves }))
    (led_each s duties h.1)

pub numbered : (s : Snapshot) (b : Bool) → b ≡ list_all (λ row. was_frozen s row.release) s.duty
    → count_from 1 s.duty ≡ true → nat_le (length s.duty) 100000 ≡ true
    → MatchBool b (AreNumbered s) (AreNumbered s → ⊥)
numbered s true e count few = record {
  numbered = from_count 1 s.duty count;
  few = few;
  frozen = sym e;
}
numbered s false e count few = λ h. contrary (list_all (λ row. was_frozen s row.release) s.duty)
    h.frozen (sym e)

pub changed : (s : Snapshot) (b : Bool) → b ≡ list_all (is_waived s) s.waiver
    → list_all (leads_to s) s.duty ≡ true
    → list_all (λ row. is_within (length s.duty) row.duty) s.changes ≡ true
    → MatchBool b (AreChanges s) (AreChanges s → ⊥)
changed s true e each all = record {
  of_each = each_led s s.duty each;
  of_duties = all;
  waivers = sym e;
}
changed s false e each all = λ h. contrary (list_all (is_waived s) s.waiver) h.waivers (sym e)
