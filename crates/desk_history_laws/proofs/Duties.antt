-- The duties: their numbers, their releases, and their states.
use Rattle.std.proofs.Common.{◌≡◌, ◌≢◌, ℕ, ◌+◌, ◌<◌, ◌≤◌, Bool, true, false, List, [], ◌∷◌, ◌++◌}
use Rattle.std.proofs.Common.{length, map, Option, Some, None, refl, sym, ap, ◌∙◌, subst, arith}
use Rattle.std.proofs.Common.{length-append, inl, inr}
use Rattle.std.specs.Prelude.{pos, IsTrue, is_some, not, nat_lt, nat_le, ◌&&◌, ◌||◌, ◌==◌, ◌⊎◌}
use Rattle.std.specs.Prelude.{find, unwrap_or, if◌then◌else◌}
use Rattle.std.specs.List.{list_all, list_any, enumerate_from}
use Rattle.std.specs.Option.{option_map, option_map_or}
use Rattle.std.specs.Ordering.{int_eq}
use Rattle.std.specs.Str.{bytes_eq}
use Rattle.std.proofs.lemmas.Bool.Decides.{nat_tests}
use Rattle.std.proofs.lemmas.List.{length-map, length_push}
use Rattle.std.proofs.lemmas.List.FromFn.{length-enumerate_from}
use Rattle.desk_base.proofs.Bools.{and_left}
use Rattle.desk_base.proofs.Numbers.{numbers_equal}
use Rattle.desk_base.proofs.Texts.{text_tells, same_text}
use Rattle.desk_base.proofs.Lists.{is_there}
use Rattle.desk_model.specs.Lists.{IsIn, latest, or_else}
use Rattle.desk_model.specs.Texts.{is_before}
use Rattle.desk_model.specs.Readings.{Readings}
use Rattle.desk_model.specs.History.{form_of, form_given, forms_in, in_force, opened, revisions}
use Rattle.desk_model.specs.History.{revision_of, state_of, state_given}
use Rattle.desk_model.specs.Raised.{numbered, owed_at, raised}
use Rattle.desk_model.specs.States.{is_met, is_waived, state_after}
use Rattle.desk_model.specs.Moves.{duties, duty_at, duty_row, end_after, has_ended, is_known}
use Rattle.desk_model.specs.Moves.{is_raised_for, move_if, moves, place, place_after, raises}
use Rattle.desk_model.specs.Moves.{with_move}
use Rattle.desk_model.specs.Answers.{answer, gone, is_recorded, IsHistory, moving, move_answer}
use Rattle.desk_model.specs.Answers.{release_state, release_state_of}
use Rattle.desk_model.specs.Tables.{release_row, release_rows, tables}
use Rattle.desk_model.specs.declared.row.Move.{Move}
use Rattle.desk_model.specs.declared.row.Owed.{Owed}
use Rattle.desk_model.specs.declared.row.ReleaseRow.{ReleaseRow}
use Rattle.desk_model.specs.declared.state.DutyState.{DutyState}
use Rattle.desk_model.specs.declared.state.DutyState.TheVariants as stands
use Rattle.desk_model.specs.declared.state.ReleaseState.{ReleaseState}
use Rattle.desk_model.specs.declared.state.ReleaseState.TheVariants as release
use Rattle.desk_model.specs.declared.state.Word.{Word}
use Rattle.desk_model.specs.declared.state.Word.TheVariants as word
use Rattle.desk_model.specs.declared.command.Command.{Command}
use Rattle.desk_model.specs.declared.command.Command.TheVariants.{LoadCatalogue, OpenRelease}
use Rattle.desk_model.specs.declared.command.Command.TheVariants.{Freeze, Meet, Waive, Reopen}
use Rattle.desk_model.specs.declared.command.Command.TheVariants.{Withdraw, CloseDay}
use Rattle.desk_history.proofs.Lookups.{release_found-tables}
use Rattle.desk_history.proofs.Members.{in_cases, from_map}
use Rattle.desk_history.proofs.OwnKeys.{open_at, owed_release, raised_closed}
use Rattle.desk_history.proofs.Rows.{find-map}
use Rattle.desk_history.proofs.Freezing.{numbered-append}
use Rattle.desk_model.specs.Names.{duty_state_name, release_state_name, release_state_named}
use Rattle.desk_model.proofs.Lists.{all_pass}
use Rattle.desk_snapshot.specs.Conditions.{AreNumbered, AreStates, stands_as, was_frozen}
use Rattle.desk_snapshot.specs.Rows as stored
use Rattle.desk_snapshot.specs.Rows.{AreFrom}
use Rattle.desk_snapshot.specs.Tables.{duty_stored, release_stored, snapshot_of}
use Rattle.desk_snapshot.specs.declared.rows.StoredDuty.{StoredDuty}
use Rattle.desk_snapshot.specs.declared.rows.StoredRelease.{StoredRelease}
use Rattle.desk_history_laws.proofs.Lists.{at_own, in_numbers, pos_eq}
use Rattle.desk_history_laws.proofs.Recorded.{allows, freezes, opened_form}
use Rattle.desk_history_laws.proofs.Bills.{known_too}

-- ---- how many is_there are

numbers_from : (w : Readings) (h : List Command) (n : ℕ) (xs : List Owed)
    → AreFrom n (map (λ (row : StoredDuty). row.number)
    (map duty_stored (map (λ (d : ℕ × Owed). duty_row (place w h d.0) d) (enumerate_from n xs))))
numbers_from w h n [] = tt
numbers_from w h n (x ∷ xs) = (refl, numbers_from w h (n + 1) xs)

pub length-duties : (w : Readings) (h : List Command)
    → length (map duty_stored (duties w h)) ≡ length (raised w h)
length-duties w h =
    length-map (duties w h) duty_stored
    ∙ (length-map (numbered w h) (λ (d : ℕ × Owed). duty_row (place w h d.0) d)
    ∙ length-enumerate_from 1 (raised w h))

few_raised : (w : Readings) (h : List Command) → IsHistory w h
    → nat_le (length (raised w h)) 100000 ≡ true
few_raised w [] ok = refl
few_raised w (Freeze r day ∷ h) ok =
    let f = freezes w h r day ok.0 in
    ap (λ n. nat_le n 100000) (length-append (raised w h) (owed_at w h r)) ∙ f.room
few_raised w (c ∷ h) ok = few_raised w h ok.1

-- ---- a release is found by its name

pub stored_release : (w : Readings) (h : List Command) (r : List ℕ)
    → find (stored.is_release r) (map release_stored (release_rows h))
    ≡ (if is_some (form_of h r) then Some (release_stored (release_row h r)) else None)
stored_release w h r =
    find-map (stored.is_release r) release_stored (release_rows h)
    ∙ (ap (option_map release_stored) (release_found-tables w h r)
    ∙ elim (is_some (form_of h r)) as
    (λ b. option_map release_stored (if b then Some (release_row h r) else None)
    ≡ (if b then Some (release_stored (release_row h r)) else None)) [ true ↦ refl | false ↦ refl ])

pub opened_release : (w : Readings) (h : List Command) (r : List ℕ) → is_some (form_of h r) ≡ true
    → find (stored.is_release r) (map release_stored (release_rows h))
    ≡ Some (release_stored (release_row h r))
opened_release w h r e = stored_release w h r ∙ rw e refl

-- ---- a duty's release was frozen under a revision

-- forms are those of a catalogue that was loaded
forms_loaded : (w : Readings) (h : List Command) (form : List ℕ)
    → list_any (bytes_eq form) (forms_in (in_force w h)) ≡ true → 1 ≤ length (revisions h)
forms_loaded w [] form e = cc
forms_loaded w (LoadCatalogue text ∷ h) form e = omega
    (arith, length_push (revisions h) (record { revision = length (revisions h) + 1; body = text }))
forms_loaded w (c ∷ h) form e = forms_loaded w h form e

pub opened_loaded : (w : Readings) (h : List Command) (r : List ℕ) → IsHistory w h
    → is_some (form_of h r) ≡ true → 1 ≤ length (revisions h)
opened_loaded w [] r ok e = cc
opened_loaded w (OpenRelease r' form ∷ h) r ok e = forms_loaded w h form
    (opened_form w h r' form ok.0).0
opened_loaded w (LoadCatalogue text ∷ h) r ok e = omega
    (arith, length_push (revisions h) (record { revision = length (revisions h) + 1; body = text }))
opened_loaded w (c ∷ h) r ok e = opened_loaded w h r ok.1 e

pub record WasFrozen (h : List Command) (r : List ℕ) : Type 0 where
  pub opened : is_some (form_of h r) ≡ true
  pub revision : 1 ≤ revision_of h r

frozen_step : (h : List Command) (r r' day : List ℕ) → 1 ≤ length (revisions h) → WasFrozen h r
    → WasFrozen (Freeze r' day ∷ h) r
frozen_step h r r' day le was = record {
  opened = was.opened;
  revision = elim (bytes_eq r' r) as
      (λ b. 1 ≤ (if b then length (revisions h) else revision_of h r))
      [ true ↦ le | false ↦ was.revision ];
}

pub frozen_release : (w : Readings) (h : List Command) (d : Owed) → IsHistory w h
    → IsIn d (raised w h) → WasFrozen h d.release
frozen_release w [] d ok m = absurd m
frozen_release w (Freeze r day ∷ h) d ok m =
    let f = freezes w h r day ok.0 in
    let le = opened_loaded w h r ok.1 f.opened in
    elim (in_cases d (raised w h) (owed_at w h r) m) [
      | inl old ↦ frozen_step h d.release r day le (frozen_release w h d ok.1 old)
      | inr new ↦
          let same : d.release ≡ r = owed_release w h r d new in
          record {
            opened = ap (λ (n : List ℕ). is_some (form_of h n)) same ∙ f.opened;
            revision = rw (ap (λ (n : List ℕ). bytes_eq r n) same ∙ same_text r) le;
          }
    ]
frozen_release w (OpenRelease r form ∷ h) d ok m =
    let was = frozen_release w h d ok.1 m in
    record {
      opened = known_too (bytes_eq r d.release) form (latest (form_given d.release) h)
          was.opened;
      revision = was.revision;
    }
frozen_release w (c ∷ h) d ok m = let was = frozen_release w h d ok.1 m in
    record { opened = was.opened; revision = was.revision }

not_none : (n : ℕ) → 1 ≤ n → not (int_eq (pos n) (pos 0)) ≡ true
not_none n le = rw (pos_eq n 0) (grind (arith, nat_tests))

pub found_frozen : (w : Readings) (h : List Command) (r : List ℕ) → WasFrozen h r
    → was_frozen (snapshot_of (tables w h)) r ≡ true
found_frozen w h r was =
    ap (λ (o : Option StoredRelease). option_map_or
    (λ (row : StoredRelease). not (int_eq row.revision (pos 0))) o false)
    (opened_release w h r was.opened)
    ∙ not_none (revision_of h r) was.revision

-- a row of a duty is that of a numbered one
pub record RowOf (w : Readings) (h : List Command) (row : StoredDuty) : Type 0 where
  pub duty : ℕ × Owed
  pub listed : IsIn duty (numbered w h)
  pub same : duty_stored (duty_row (place w h duty.0) duty) ≡ row

pub row_of : (w : Readings) (h : List Command) (row : StoredDuty)
    → IsIn row (map duty_stored (duties w h)) → RowOf w h row
row_of w h row m =
    let at = from_map duty_stored row (duties w h) m in
    let own = from_map (λ (d : ℕ × Owed). duty_row (place w h d.0) d) at.0 (numbered w h) at.1 in
    record { duty = own.0; listed = own.1; same = ap duty_stored own.2 ∙ at.2 }

pub are_numbered : (w : Readings) (h : List Command) → IsHistory w h
    → AreNumbered (snapshot_of (tables w h))
are_numbered w h ok = record {
  numbered = numbers_from w h 1 (raised w h);
  few = ap (λ n. nat_le n 100000) (length-duties w h) ∙ few_raised w h ok;
  frozen = all_pass (λ (row : StoredDuty). was_frozen (snapshot_of (tables w h)) row.release)
      (map duty_stored (duties w h)) (λ row m.
      let at = row_of w h row m in
      let was = frozen_release w h at.duty.1 ok (in_numbers 1 (raised w h) at.duty at.listed).2 in
      subst (λ (row : StoredDuty). was_frozen (snapshot_of (tables w h)) row.release ≡ true) at.same
      (found_frozen w h at.duty.1.release was));
}

-- ---- the states of duties, by the state of their release

-- a withdrawn release has no open or waived duty, any other one has no withdrawn one
abbrev pub suits : ReleaseState → DutyState → Bool
suits release.Withdrawn stands.IsOpen = false
suits release.Withdrawn stands.Waived = false
suits release.Withdrawn state = true
suits state stands.Withdrawn = false
suits state other = true

-- a duty that a command moves, or not
moved_where : (P : DutyState → Type 0) (b : Bool) (m : Move) (ms : List Move)
    → (b ≡ false → P (place_after ms)) → (b ≡ true → P (state_after m.word))
    → P (place_after (with_move (move_if b m) ms))
moved_where P true m ms old new = new refl
moved_where P false m ms old new = old refl

-- by Meet, Waive and Reopen, of a release that isn't withdrawn
suits_moved : (s : ReleaseState) (w : Word) → gone s ≡ None → (w ≡ word.Withdrawn → ⊥)
    → suits s (state_after w) ≡ true
suits_moved release.Withdrawn w e other = cc
suits_moved s word.Withdrawn e other = absurd (other refl)
suits_moved s w e other = refl

-- by the end of a waiver
suits_ended : (s : ReleaseState) (p : DutyState) → suits s p ≡ true → is_waived p ≡ true
    → suits s stands.IsOpen ≡ true
suits_ended release.Withdrawn stands.Waived e waived = cc
suits_ended release.Withdrawn stands.IsOpen e waived = cc
suits_ended release.Withdrawn stands.Met e waived = cc
suits_ended release.Withdrawn stands.Withdrawn e waived = cc
suits_ended release.IsOpen p e waived = refl
suits_ended release.Frozen p e waived = refl

suits_met : (p : DutyState) → is_met p ≡ true → suits release.Withdrawn p ≡ true
suits_met stands.Met e = refl
suits_met stands.IsOpen e = cc
suits_met stands.Waived e = cc
suits_met stands.Withdrawn e = cc

-- the state of the release of a duty that is named
state_named : (h : List Command) (d : ℕ × Owed) (o : Option (ℕ × Owed)) → o ≡ Some d
    → is_some (form_of h d.1.release) ≡ true → gone (release_state_of h o) ≡ None
    → gone (state_of h d.1.release) ≡ None
state_named h d o e opened none =
    let at = is_there (form_of h d.1.release) opened in
    let state : release_state h d.1.release ≡ Some (state_of h d.1.release) =
    ap (option_map (λ (form : List ℕ). state_of h d.1.release)) at.1 in
    ap gone (sym (ap (release_state_of h) e
    ∙ ap (λ (s : Option ReleaseState). unwrap_or s release.IsOpen) state)) ∙ none

abbrev pub move : Word → List ℕ → List ℕ → Option (List ℕ) → Move
move word day text until = record { day = day; word = word; body = text; last_day = until }

abbrev Suited : Readings → List Command → ℕ × Owed → Type 0
Suited w h d = suits (state_of h d.1.release) (place w h d.0) ≡ true

pub gone_of : (w : Readings) (h : List Command) (word : Word) (q : ℕ) (day text : List ℕ)
    (until : Option (List ℕ)) (d : ℕ × Owed) → IsHistory w h
    → IsTrue (is_recorded (move_answer word day text until (moving w h q))) → IsIn d (numbered w h)
    → q ≡ d.0 → gone (state_of h d.1.release) ≡ None
gone_of w h word q day text until d ok recorded m same =
    let was = frozen_release w h d.1 ok (in_numbers 1 (raised w h) d m).2 in
    let at : duty_at w h q ≡ Some d = ap (duty_at w h) same ∙ at_own 1 (raised w h) d m in
    let all = allows word day text until (moving w h q) recorded in
    state_named h d (duty_at w h q) at was.opened all.stays

named : (w : Readings) (h : List Command) (by : Word) (q : ℕ) (day text : List ℕ)
    (until : Option (List ℕ)) (d : ℕ × Owed) → (by ≡ word.Withdrawn → ⊥) → IsHistory w h
    → IsTrue (is_recorded (move_answer by day text until (moving w h q))) → IsIn d (numbered w h)
    → Suited w h d
    → suits (state_of h d.1.release)
    (place_after (with_move (move_if ((q == d.0) && is_known w h d.0) (move by day text until))
    (moves w h d.0))) ≡ true
named w h by q day text until d other ok recorded m old =
    moved_where (λ p. suits (state_of h d.1.release) p ≡ true) ((q == d.0) && is_known w h d.0)
    (move by day text until) (moves w h d.0) (λ e. old) (λ e.
    suits_moved (state_of h d.1.release) by
    (gone_of w h by q day text until d ok recorded m
    (numbers_equal q d.0 (and_left (q == d.0) (is_known w h d.0) e))) other)

pub raises_not : (w : Readings) (h : List Command) (r : List ℕ) (q : ℕ)
    → q < 1 + length (raised w h) → raises w h r q ≡ false
raises_not w h r q le = grind (arith, nat_tests)

raises_new : (n k q : ℕ) → 1 + n ≤ q → q < 1 + n + k → (nat_lt n q && nat_le q (n + k)) ≡ true
raises_new n k q le lt = grind (arith, nat_tests)

pub new_raised : (w : Readings) (h : List Command) (r : List ℕ) (d : ℕ × Owed)
    → IsIn d (enumerate_from (1 + length (raised w h)) (owed_at w h r)) → raises w h r d.0 ≡ true
new_raised w h r d m = let at = in_numbers (1 + length (raised w h)) (owed_at w h r) d m in
    raises_new (length (raised w h)) (length (owed_at w h r)) d.0 at.0 at.1

pub raised_cases : (w : Readings) (h : List Command) (r : List ℕ) (d : ℕ × Owed)
    → IsIn d (enumerate_from 1 (raised w h ++ owed_at w h r))
    → IsIn d (numbered w h) ⊎ IsIn d (enumerate_from (1 + length (raised w h)) (owed_at w h r))
raised_cases w h r d m =
    in_cases d (numbered w h) (enumerate_from (1 + length (raised w h)) (owed_at w h r))
    (subst (λ (ds : List (ℕ × Owed)). IsIn d ds) (numbered-append 1 (raised w h) (owed_at w h r)) m)

kept_state : (r r' : List ℕ) (s : ReleaseState) (o : Option ReleaseState) → bytes_eq r' r ≡ false
    → unwrap_or (or_else (if bytes_eq r' r then Some s else None) o) release.IsOpen
    ≡ unwrap_or o release.IsOpen
kept_state r r' s o e = rw e refl

new_state : (r r' : List ℕ) (s : ReleaseState) (o : Option ReleaseState) → r' ≡ r
    → unwrap_or (or_else (if bytes_eq r' r then Some s else None) o) release.IsOpen ≡ s
new_state r r' s o e = let same : bytes_eq r' r ≡ true = ap (λ n. bytes_eq n r) e ∙ same_text r in
    rw same refl

frozen_suited : (w : Readings) (h : List Command) (r day : List ℕ) (d : ℕ × Owed)
    → IsTrue (is_recorded (answer w h (Freeze r day))) → IsIn d (numbered w h) → Suited w h d
    → Suited w (Freeze r day ∷ h) d
frozen_suited w h r day d recorded m old =
    let bounds = in_numbers 1 (raised w h) d m in
    let same : place w (Freeze r day ∷ h) d.0 ≡ place w h d.0 =
    rw (raises_not w h r d.0 bounds.1) refl in
    elim (text_tells r d.1.release) [
      | inl own ↦
          let opened : state_of h d.1.release ≡ release.IsOpen = ap (state_of h) (sym own.1)
          ∙ open_at w h r day recorded in
          absurd (raised_closed w h d.1 bounds.2 opened)
      | inr differ ↦
          let state : state_of (Freeze r day ∷ h) d.1.release ≡ state_of h d.1.release =
          kept_state d.1.release r release.Frozen (latest (state_given d.1.release) h) differ.0 in
          ap (λ s. suits s (place w (Freeze r day ∷ h) d.0)) state
          ∙ (ap (suits (state_of h d.1.release)) same ∙ old)
    ]

raised_suited : (w : Readings) (h : List Command) (r day : List ℕ) (d : ℕ × Owed)
    → IsIn d (enumerate_from (1 + length (raised w h)) (owed_at w h r))
    → Suited w (Freeze r day ∷ h) d
raised_suited w h r day d m =
    let own : r ≡ d.1.release = sym (owed_release w h r d.1
    (in_numbers (1 + length (raised w h)) (owed_at w h r) d m).2) in
    let state : state_of (Freeze r day ∷ h) d.1.release ≡ release.Frozen =
    new_state d.1.release r release.Frozen (latest (state_given d.1.release) h) own in
    let at : place w (Freeze r day ∷ h) d.0 ≡ stands.IsOpen = rw (new_raised w h r d m) refl in
    ap (λ s. suits s (place w (Freeze r day ∷ h) d.0)) state ∙ ap (suits release.Frozen) at

withdrawn_suited : (w : Readings) (h : List Command) (r day text : List ℕ) (d : ℕ × Owed)
    → IsIn d (numbered w h) → Suited w h d → Suited w (Withdraw r day text ∷ h) d
withdrawn_suited w h r day text d m old =
    let at : duty_at w h d.0 ≡ Some d = at_own 1 (raised w h) d m in
    let mine : is_raised_for w h d.0 r ≡ bytes_eq d.1.release r =
    ap (λ (o : Option (ℕ × Owed)). option_map_or (λ (d : ℕ × Owed). bytes_eq d.1.release r) o false)
    at in
    let unmet = not (is_met (place w h d.0)) in
    elim (text_tells r d.1.release) [
      | inl own ↦
          let yes : bytes_eq d.1.release r ≡ true = ap (λ n. bytes_eq n r) (sym own.1)
          ∙ same_text r in
          let state : state_of (Withdraw r day text ∷ h) d.1.release ≡ release.Withdrawn =
          new_state d.1.release r release.Withdrawn (latest (state_given d.1.release) h) own.1 in
          let moved : suits release.Withdrawn (place_after
          (with_move (move_if (is_raised_for w h d.0 r && unmet)
          (move word.Withdrawn day text None)) (moves w h d.0))) ≡ true =
          moved_where (λ p. suits release.Withdrawn p ≡ true) (is_raised_for w h d.0 r && unmet)
          (move word.Withdrawn day text None) (moves w h d.0)
          (λ e. suits_met (place w h d.0)
          (met_by (is_raised_for w h d.0 r) (is_met (place w h d.0)) (mine ∙ yes) e)) (λ e. refl) in
          ap (λ s. suits s (place w (Withdraw r day text ∷ h) d.0)) state ∙ moved
      | inr differ ↦
          let none : is_raised_for w h d.0 r ≡ false = mine ∙ other d.1.release r differ.1 in
          let state : state_of (Withdraw r day text ∷ h) d.1.release ≡ state_of h d.1.release =
          kept_state d.1.release r release.Withdrawn (latest (state_given d.1.release) h)
          differ.0 in
          let same : place w (Withdraw r day text ∷ h) d.0 ≡ place w h d.0 = rw none refl in
          ap (λ s. suits s (place w (Withdraw r day text ∷ h) d.0)) state
          ∙ (ap (suits (state_of h d.1.release)) same ∙ old)
    ]
  where
    met_by : (a b : Bool) → a ≡ true → (a && not b) ≡ false → b ≡ true
    met_by true true e f = refl
    met_by true false e f = cc
    met_by false b e f = cc

    other : (a b : List ℕ) → b ≢ a → bytes_eq a b ≡ false
    other a b differ = elim (text_tells a b)
        [ inl same ↦ absurd (differ (sym same.1)) | inr apart ↦ apart.0 ]

pub suited : (w : Readings) (h : List Command) → IsHistory w h → (d : ℕ × Owed)
    → IsIn d (numbered w h) → Suited w h d
suited w [] ok d m = absurd m
suited w (Freeze r day ∷ h) ok d m =
    elim (raised_cases w h r d m) [
      | inl old ↦ frozen_suited w h r day d ok.0 old (suited w h ok.1 d old)
      | inr new ↦ raised_suited w h r day d new
    ]
suited w (Meet q day text ∷ h) ok d m = named w h word.Met q day text None d (λ e. cc) ok.1 ok.0 m
    (suited w h ok.1 d m)
suited w (Waive q day text until ∷ h) ok d m = named w h word.Waived q day text until d (λ e. cc)
    ok.1 ok.0 m (suited w h ok.1 d m)
suited w (Reopen q day text ∷ h) ok d m = named w h word.Reopened q day text None d (λ e. cc) ok.1
    ok.0 m (suited w h ok.1 d m)
suited w (Withdraw r day text ∷ h) ok d m = withdrawn_suited w h r day text d m
    (suited w h ok.1 d m)
suited w (CloseDay day ∷ h) ok d m =
    let old = suited w h ok.1 d m in
    let p = place w h d.0 in
    let end = end_after (moves w h d.0) in
    moved_where (λ p. suits (state_of h d.1.release) p ≡ true) (has_ended day p end)
    (move word.Ended day [] None) (moves w h d.0) (λ e. old) (λ e.
    suits_ended (state_of h d.1.release) p old
    (and_left (is_waived p) (option_map_or (λ last. is_before last day) end false) e))
suited w (c ∷ h) ok d m = suited w h ok.1 d m

-- the same for the rows
stands_by : (of : StoredRelease) (row : StoredDuty) (s : ReleaseState) (p : DutyState)
    → of.state ≡ release_state_name s → row.state ≡ duty_state_name p → suits s p ≡ true
    → stands_as of row ≡ true
stands_by of row s p e f suit = rw (e, f) (by_names s p suit)
  where
    by_names : (s : ReleaseState) (p : DutyState) → suits s p ≡ true
        → (if bytes_eq (release_state_name s) (release_state_name release.Withdrawn)
        then not (bytes_eq (duty_state_name p) (duty_state_name stands.IsOpen)
        || bytes_eq (duty_state_name p) (duty_state_name stands.Waived))
        else not (bytes_eq (duty_state_name p) (duty_state_name stands.Withdrawn))) ≡ true
    by_names release.Withdrawn stands.IsOpen e = cc
    by_names release.Withdrawn stands.Met e = refl
    by_names release.Withdrawn stands.Waived e = cc
    by_names release.Withdrawn stands.Withdrawn e = refl
    by_names release.IsOpen stands.IsOpen e = refl
    by_names release.IsOpen stands.Met e = refl
    by_names release.IsOpen stands.Waived e = refl
    by_names release.IsOpen stands.Withdrawn e = cc
    by_names release.Frozen stands.IsOpen e = refl
    by_names release.Frozen stands.Met e = refl
    by_names release.Frozen stands.Waived e = refl
    by_names release.Frozen stands.Withdrawn e = cc

named_state : (s : ReleaseState) → is_some (release_state_named (release_state_name s)) ≡ true
named_state release.IsOpen = refl
named_state release.Frozen = refl
named_state release.Withdrawn = refl

releases_named : (rows : List ReleaseRow)
    → list_all (λ (row : StoredRelease). is_some (release_state_named row.state))
    (map release_stored rows) ≡ true
releases_named [] = refl
releases_named (row ∷ rows) = rw (named_state row.state, releases_named rows) refl

pub are_states : (w : Readings) (h : List Command) → IsHistory w h
    → AreStates (snapshot_of (tables w h))
are_states w h ok =
    let releases = map release_stored (release_rows h) in
    let test = λ (row : StoredDuty). option_map_or
    (λ (release : StoredRelease). stands_as release row)
    (find (stored.is_release row.release) releases) true in
    record {
      releases = releases_named (release_rows h);
      duties = all_pass test (map duty_stored (duties w h)) (λ row m.
          let at = row_of w h row m in
          let d = at.duty in
          let was = frozen_release w h d.1 ok (in_numbers 1 (raised w h) d at.listed).2 in
          let own = duty_stored (duty_row (place w h d.0) d) in
          let here : test own ≡ true =
          ap (λ (o : Option StoredRelease). option_map_or
          (λ (release : StoredRelease). stands_as release own) o true)
          (opened_release w h d.1.release was.opened)
          ∙ stands_by (release_stored (release_row h d.1.release)) own (state_of h d.1.release)
          (place w h d.0) refl refl (suited w h ok d at.listed) in
          subst (λ (row : StoredDuty). test row ≡ true) at.same here);
    }
