-- What a recorded command looked up: none of its refusals applied.
use Rattle.std.proofs.Common.{◌≡◌, ℕ, ◌+◌, ◌<◌, true, false, List, Option, Some, None}
use Rattle.std.specs.Prelude.{IsTrue, is_some, not, nat_lt, nat_le, ◌&&◌}
use Rattle.std.specs.List.{list_any}
use Rattle.std.specs.Option.{option_map, option_map_or, option_and_then}
use Rattle.std.specs.Str.{bytes_eq}
use Rattle.std.proofs.lemmas.Bool.{not-true}
use Rattle.desk_history_laws.proofs.Bills.{is_mapped}
use Rattle.desk_base.specs.Day.{is_day}
use Rattle.desk_base.specs.Limits as most
use Rattle.desk_base.proofs.Bools.{and_left, and_right}
use Rattle.desk_model.specs.Texts.{is_note, is_release_name}
use Rattle.desk_model.specs.Readings.{Readings}
use Rattle.desk_model.specs.History.{form_of, state_of}
use Rattle.desk_model.specs.Answers.{answer, is_recorded, unless, unready, gone, settled}
use Rattle.desk_model.specs.Answers.{Moving, move_answer, freezing, opening}
use Rattle.desk_model.specs.declared.command.Command.{Command}
use Rattle.desk_model.specs.declared.command.Command.TheVariants.{CloseDay, Freeze, OpenRelease, Withdraw}
use Rattle.desk_model.specs.declared.refusal.Limit.TheVariants as limit
use Rattle.desk_model.specs.declared.refusal.Refusal.TheVariants as why
use Rattle.desk_model.specs.declared.state.ReleaseState.{ReleaseState}
use Rattle.desk_model.specs.declared.state.Word.{Word}
use Rattle.desk_model.specs.Moves.{is_over}
use Rattle.desk_history.proofs.Recorded.{past, is_so}
use Rattle.desk_history.proofs.Moving.{less_by}

-- Meet, Waive and Reopen
pub record Allows (word : Word) (day text : List ℕ) (until : Option (List ℕ))
    (found : Moving) : Type 0 where
  pub dated : is_day day ≡ true
  pub ends : option_map_or is_day until true ≡ true
  pub note : is_note text ≡ true
  pub over : is_over day until ≡ false
  pub known : is_some found.place ≡ true
  pub stays : gone found.release ≡ None
  pub from : option_and_then (settled word) found.place ≡ None
  pub room : found.steps < 999

pub allows : (word : Word) (day text : List ℕ) (until : Option (List ℕ)) (found : Moving)
    → IsTrue (is_recorded (move_answer word day text until found))
    → Allows word day text until found
allows word day text until found e =
    let one = past (unless (is_day day && option_map_or is_day until true) why.BadDay) _ e in
    let two = past (unless (is_note text) why.BadText) _ one.1 in
    let three = past (unless (not (is_over day until)) why.BadEnd) _ two.1 in
    let four = past (unless (is_some found.place) why.UnknownDuty) _ three.1 in
    let five = past (gone found.release) _ four.1 in
    let six = past (option_and_then (settled word) found.place) _ five.1 in
    let seven = past (unless (nat_lt found.steps most.changes) (why.Full limit.Changes)) _ six.1 in
    let days = is_so (is_day day && option_map_or is_day until true) why.BadDay one.0 in
    record {
      dated = and_left (is_day day) (option_map_or is_day until true) days;
      ends = and_right (is_day day) (option_map_or is_day until true) days;
      note = is_so (is_note text) why.BadText two.0;
      over = not-true (is_over day until) (is_so (not (is_over day until)) why.BadEnd three.0);
      known = is_so (is_some found.place) why.UnknownDuty four.0;
      stays = five.0;
      from = six.0;
      room = less_by found.steps 999 (is_so (nat_lt found.steps most.changes)
          (why.Full limit.Changes)
          seven.0);
    }

-- OpenRelease: in a form of the catalogue in force, and with a name that isn't taken
pub opened_form : (w : Readings) (h : List Command) (r form : List ℕ)
    → IsTrue (is_recorded (answer w h (OpenRelease r form)))
    → (list_any (bytes_eq form) (opening w h r).forms ≡ true) × (is_some (form_of h r) ≡ false)
opened_form w h r form e =
    let found = opening w h r in
    let one = past (unless (is_release_name r) why.BadName) _ e in
    let two = past (unless (list_any (bytes_eq form) found.forms) why.UnknownForm) _ one.1 in
    let three = past (unless (not found.is_taken) why.NameTaken) _ two.1 in (
      is_so (list_any (bytes_eq form) found.forms) why.UnknownForm two.0,
      not-true found.is_taken (is_so (not found.is_taken) why.NameTaken three.0),
    )

-- Freeze: on a day, of a release that was opened, while is_there is room for its duties
pub record Freezes (w : Readings) (h : List Command) (r day : List ℕ) : Type 0 where
  pub dated : is_day day ≡ true
  pub opened : is_some (form_of h r) ≡ true
  pub faultless : (freezing w h r).fault ≡ None
  pub room : nat_le ((freezing w h r).raised + (freezing w h r).owed) most.duties ≡ true

pub freezes : (w : Readings) (h : List Command) (r day : List ℕ)
    → IsTrue (is_recorded (answer w h (Freeze r day))) → Freezes w h r day
freezes w h r day e =
    let found = freezing w h r in
    let one = past (unless (is_day day) why.BadDay) _ e in
    let two = past (unless (is_some found.state) why.UnknownRelease) _ one.1 in
    let three = past (option_and_then unready found.state) _ two.1 in
    let four = past (unless (nat_lt 0 found.attached) why.EmptyRelease) _ three.1 in
    let five = past found.fault _ four.1 in
    let six = past (unless (nat_le (found.raised + found.owed) most.duties) (why.Full limit.Duties))
    _ five.1 in
    record {
      dated = is_so (is_day day) why.BadDay one.0;
      opened = is_mapped (λ (form : List ℕ). state_of h r) (form_of h r)
          (is_so (is_some found.state) why.UnknownRelease two.0);
      faultless = five.0;
      room = is_so (nat_le (found.raised + found.owed) most.duties) (why.Full limit.Duties) six.0;
    }

-- Withdraw: on a day, with a text, of a release that isn't withdrawn
not_gone : (s : ReleaseState) (form : Option (List ℕ))
    → is_some (option_map (λ (f : List ℕ). s) form) ≡ true
    → option_and_then gone (option_map (λ (f : List ℕ). s) form) ≡ None → gone s ≡ None
not_gone s None known e = cc
not_gone s (Some f) known e = e

pub record Withdraws (h : List Command) (r day text : List ℕ) : Type 0 where
  pub dated : is_day day ≡ true
  pub note : is_note text ≡ true
  pub stands : gone (state_of h r) ≡ None

pub withdraws : (w : Readings) (h : List Command) (r day text : List ℕ)
    → IsTrue (is_recorded (answer w h (Withdraw r day text))) → Withdraws h r day text
withdraws w h r day text e =
    let found = option_map (λ (f : List ℕ). state_of h r) (form_of h r) in
    let one = past (unless (is_day day) why.BadDay) _ e in
    let two = past (unless (is_note text) why.BadText) _ one.1 in
    let three = past (unless (is_some found) why.UnknownRelease) _ two.1 in
    let four = past (option_and_then gone found) _ three.1 in
    record {
      dated = is_so (is_day day) why.BadDay one.0;
      note = is_so (is_note text) why.BadText two.0;
      stands = not_gone (state_of h r) (form_of h r)
          (is_so (is_some found) why.UnknownRelease three.0) four.0;
    }

-- CloseDay: a day
pub closes : (w : Readings) (h : List Command) (day : List ℕ)
    → IsTrue (is_recorded (answer w h (CloseDay day))) → is_day day ≡ true
closes w h day e = is_so (is_day day) why.BadDay (past (unless (is_day day) why.BadDay) _ e).0
