-- The tables after the opening of a release and after an attachment.
use Rattle.std.proofs.Common.{◌≡◌, ℕ, ◌+◌, true, false, List, [], ◌∷◌, length, map, Option}
use Rattle.std.proofs.Common.{Some, None, sym, refl, ap, ◌∙◌, inl, inr}
use Rattle.std.proofs.lemmas.Bool.{not-true}
use Rattle.std.specs.Prelude.{if◌then◌else◌, is_some, IsTrue, not}
use Rattle.std.specs.List.{list_any}
use Rattle.std.specs.Option.{option_map, option_and_then}
use Rattle.std.specs.Str.{bytes_eq}
use Rattle.desk_base.specs.Day.{is_day}
use Rattle.desk_model.specs.Lists.{latest, or_else, put}
use Rattle.desk_model.specs.Texts.{text_below, is_release_name, is_note}
use Rattle.desk_model.specs.Readings.{Readings}
use Rattle.desk_model.specs.Keys.{release_below}
use Rattle.desk_model.specs.History.{opened, names, form_of, state_given, state_of, revision_of}
use Rattle.desk_model.specs.Tables.{release_row}
use Rattle.desk_model.specs.Answers.{IsHistory, is_recorded, release_state, Opening, open_answer}
use Rattle.desk_model.specs.Answers.{Freezing, freeze_answer, freezing, unready, unless}
use Rattle.desk_model.specs.Answers.{Withdrawing, withdrawing, withdraw_answer}
use Rattle.desk_history.proofs.Recorded.{past, is_so, is_ready}
use Rattle.desk_history.proofs.Rows.{map-put, map_others}
use Rattle.desk_history.proofs.Lookups.{names-form, length-releases}
use Rattle.desk_model.specs.declared.state.ReleaseState.TheVariants.{IsOpen}
use Rattle.desk_model.specs.declared.refusal.Refusal.TheVariants as why
use Rattle.desk_model.specs.declared.command.Command.{Command}
use Rattle.desk_model.specs.declared.command.Command.TheVariants.{OpenRelease, Freeze, Withdraw}
use Rattle.desk_base.proofs.Texts.{text_tells, same_text, texts_turned}

-- a release that is not opened yet has no state and no revision
pub record IsUntouched (h : List Command) (r : List ℕ) : Type 0 where
  pub state : latest (state_given r) h ≡ None
  pub revision : revision_of h r ≡ 0

-- a freeze is recorded only for a release that is open
pub frozen_open : (day : List ℕ) (found : Freezing) → IsTrue (is_recorded (freeze_answer day found))
    → found.state ≡ Some IsOpen
frozen_open day found e =
    let one = past (unless (is_day day) why.BadDay) _ e in
    let two = past (unless (is_some found.state) why.UnknownRelease) _ one.1 in
    let three = past (option_and_then unready found.state) _ two.1 in
    is_ready found.state (is_so (is_some found.state) why.UnknownRelease two.0) three.0

-- a withdrawal only for one that was opened
withdrawn_known : (day text : List ℕ) (found : Withdrawing)
    → IsTrue (is_recorded (withdraw_answer day text found)) → is_some found.state ≡ true
withdrawn_known day text found e =
    let one = past (unless (is_day day) why.BadDay) _ e in
    let two = past (unless (is_note text) why.BadText) _ one.1 in
    is_so (is_some found.state) why.UnknownRelease
    (past (unless (is_some found.state) why.UnknownRelease) _ two.1).0

or_else_rest : {B : Type 0} (o p : Option B) → is_some (or_else o p) ≡ false → is_some p ≡ false
or_else_rest None p h = h
or_else_rest (Some x) p h = cc

pub is_some-map : {A B : Type 0} (f : A → B) (o : Option A) → is_some (option_map f o) ≡ is_some o
is_some-map f None = refl
is_some-map f (Some x) = refl

-- so it isn't this one
another : (h : List Command) (r r' : List ℕ) → is_some (release_state h r') ≡ true
    → is_some (form_of h r) ≡ false → bytes_eq r' r ≡ false
another h r r' there none =
    let known : is_some (form_of h r') ≡ true =
    sym (is_some-map (λ form. state_of h r') (form_of h r')) ∙ there in
    elim (text_tells r' r) [
      | inl w ↦ (let at : is_some (form_of h r') ≡ is_some (form_of h r) =
          ap (λ n. is_some (form_of h n)) w.1 in cc)
      | inr w ↦ w.0
    ]

pub untouched : (w : Readings) (h : List Command) (r : List ℕ) → IsHistory w h
    → is_some (form_of h r) ≡ false → IsUntouched h r
untouched w [] r ok none = record { state = refl; revision = refl }
untouched w (OpenRelease r' f ∷ h) r ok none = let u =
    untouched w h r ok.1 (or_else_rest (if bytes_eq r' r then Some f else None) (form_of h r)
    none) in record {
      state = u.state;
      revision = u.revision;
    }
untouched w (Freeze r' day ∷ h) r ok none =
    let u = untouched w h r ok.1 none in
    let e : bytes_eq r' r ≡ false =
    another h r r' (ap is_some (frozen_open day (freezing w h r') ok.0)) none in
    record { state = rw e u.state; revision = rw e u.revision }
untouched w (Withdraw r' day text ∷ h) r ok none =
    let u = untouched w h r ok.1 none in
    let e : bytes_eq r' r ≡ false =
    another h r r' (withdrawn_known day text (withdrawing h r') ok.0) none in
    record { state = rw e u.state; revision = u.revision }
untouched w (_ ∷ h) r ok none = let u = untouched w h r ok.1 none in
    record { state = u.state; revision = u.revision }

-- a release is opened only if its name is free
pub open_free : (name form : List ℕ) (found : Opening)
    → IsTrue (is_recorded (open_answer name form found)) → found.is_taken ≡ false
open_free name form found e =
    let one = past (unless (is_release_name name) why.BadName) _ e in
    let two = past (unless (list_any (bytes_eq form) found.forms) why.UnknownForm) _ one.1 in
    let three = past (unless (not found.is_taken) why.NameTaken) _ two.1 in
    not-true found.is_taken (is_so (not found.is_taken) why.NameTaken three.0)

other_row : (h : List Command) (r f n : List ℕ) → bytes_eq n r ≡ false
    → release_row h n ≡ release_row (OpenRelease r f ∷ h) n
other_row h r f n differ = let e : bytes_eq r n ≡ false = texts_turned r n ∙ differ in rw e refl

new_row : (h : List Command) (r f : List ℕ) (k : ℕ) → IsUntouched h r → k ≡ length (opened h)
    → release_row (OpenRelease r f ∷ h) r
    ≡ record { name = r; place = k + 1; form = f; state = IsOpen; revision = 0 }
new_row h r f k u same = rw (same_text r, u.state, u.revision, same) refl

pub open-releases : (w : Readings) (h : List Command) (r f : List ℕ) → IsHistory w h
    → is_some (form_of h r) ≡ false
    → map (release_row (OpenRelease r f ∷ h)) (names (OpenRelease r f ∷ h))
    ≡ put release_below (record {
      name = r;
      place = length (map (release_row h) (names h)) + 1;
      form = f;
      state = IsOpen;
      revision = 0;
    }) (map (release_row h) (names h))
open-releases w h r f ok none =
    map-put text_below release_below (release_row (OpenRelease r f ∷ h)) (λ a b. refl) r (names h)
    ∙ (ap (λ row. put release_below row (map (release_row (OpenRelease r f ∷ h)) (names h)))
    (new_row h r f (length (map (release_row h) (names h))) (untouched w h r ok none)
    (length-releases h))
    ∙ ap (λ rows. put release_below
    (record {
      name = r;
      place = length (map (release_row h) (names h)) + 1;
      form = f;
      state = IsOpen;
      revision = 0;
    }) rows) (sym (map_others (release_row h) (release_row (OpenRelease r f ∷ h)) r
    (other_row h r f) (names h) (names-form h r ∙ none))))
