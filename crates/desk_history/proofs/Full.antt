-- Which command is the first past a limit.
use Rattle.std.proofs.Common.{◌≡◌, ◌∙◌, ℕ, ◌<◌, ◌+◌, Bool, true, false, List, [], ◌∷◌, length, refl, ap}
use Rattle.std.proofs.Common.{Some, None, Ok, arith}
use Rattle.std.specs.Prelude.{◌&&◌, ◌||◌, not, nat_lt, nat_le, filter, find, is_some, unwrap_or}
use Rattle.std.specs.List.{list_any}
use Rattle.std.specs.Option.{option_map, option_map_or, option_and_then}
use Rattle.std.specs.Str.{bytes_eq}
use Rattle.std.proofs.lemmas.Bool.Decides.{nat_tests}
use Rattle.desk_base.specs.Day.{is_day}
use Rattle.desk_base.specs.declared.profile.Profile.{Profile}
use Rattle.desk_model.specs.Answers.{answer, freezing, has_document, release_state, release_state_of}
use Rattle.desk_model.specs.Answers.{refused_first, unless, load_answer, import_answer, unready}
use Rattle.desk_model.specs.Answers.{taken, gone, settled}
use Rattle.desk_model.specs.Conclusions.{adoptions, is_plain, is_reference, licence_for}
use Rattle.desk_model.specs.History.{attached, attached_to, documents, form_of, forms_in, in_force}
use Rattle.desk_model.specs.History.{opened, revisions}
use Rattle.desk_model.specs.Keys.{has_namespace, is_adoption_in, is_attachment}
use Rattle.desk_model.specs.Moves.{duty_at, moves, place}
use Rattle.desk_model.specs.Raised.{owed_at, raised}
use Rattle.desk_model.specs.Readings.{Readings}
use Rattle.desk_model.specs.Texts.{is_note, is_release_name}
use Rattle.desk_model.specs.declared.command.Answer.{Answer}
use Rattle.desk_model.specs.declared.command.Answer.TheVariants as answered
use Rattle.desk_model.specs.declared.command.Command.{Command}
use Rattle.desk_model.specs.declared.command.Command.TheVariants.{Adopt, Attach, Freeze, Import}
use Rattle.desk_model.specs.declared.command.Command.TheVariants.{LoadCatalogue, Meet, OpenRelease}
use Rattle.desk_model.specs.declared.reading.Catalogue.{Catalogue}
use Rattle.desk_model.specs.declared.reading.Document.{Document}
use Rattle.desk_model.specs.declared.refusal.Limit.{Limit}
use Rattle.desk_model.specs.declared.refusal.Limit.TheVariants as limit
use Rattle.desk_model.specs.declared.refusal.Refusal.TheVariants as why
use Rattle.desk_model.specs.declared.row.Owed.{Owed}
use Rattle.desk_model.specs.declared.state.DutyState.TheVariants as duty
use Rattle.desk_model.specs.declared.state.ReleaseState.TheVariants as release
use Rattle.desk_model.specs.declared.state.Word.TheVariants as word
use Rattle.desk_history.specs.Full.{IsFullAt}

-- an answer by whether there is room
by_room : (most : ℕ) (l : Limit) (count : ℕ) (done : Answer) (answer : Bool → Answer)
    → answer true ≡ done → answer false ≡ answered.Refused (why.Full l)
    → IsFullAt most l count done (answer (nat_lt count most))
by_room most l count done answer room full = (
  λ less.
      let is : nat_lt count most ≡ true = grind (arith, nat_tests) in
      ap answer is ∙ room,
  λ same.
      let is : nat_lt count most ≡ false = grind (arith, nat_tests) in
      ap answer is ∙ full,
)

pub revisions_full : (w : Readings) (h : List Command) (text : List ℕ) (c : Catalogue)
    → w.catalogue text ≡ Ok c → IsFullAt 4096 limit.Revisions (length (revisions h))
    (answered.Revision (length (revisions h) + 1)) (answer w h (LoadCatalogue text))
revisions_full w h text c is =
    let count = length (revisions h) in
    let answers = λ (room : Bool). refused_first (unless room (why.Full limit.Revisions) ∷ [])
    (answered.Revision (count + 1)) in
    let found = by_room 4096 limit.Revisions count (answered.Revision (count + 1)) answers refl refl in
    let same : answer w h (LoadCatalogue text) ≡ answers (nat_lt count 4096) =
    ap (λ r. load_answer r (record { revisions = count })) is in
    (λ less. same ∙ found.0 less, λ at. same ∙ found.1 at)

pub documents_full : (w : Readings) (h : List Command) (bytes : List ℕ) (profile : Profile)
    (d : Document) → w.document bytes ≡ Ok d
    → find (has_namespace d.namespace) (documents w h) ≡ None
    → IsFullAt 4096 limit.Documents (length (documents w h))
    (answered.Imported (length (documents w h) + 1)) (answer w h (Import bytes profile))
documents_full w h bytes profile d is new =
    let count = length (documents w h) in
    let answers = λ (room : Bool). refused_first (unless room (why.Full limit.Documents) ∷ [])
    (answered.Imported (count + 1)) in
    let found = by_room 4096 limit.Documents count (answered.Imported (count + 1)) answers refl refl in
    let read : answer w h (Import bytes profile)
    ≡ import_answer (Ok d) bytes (record { documents = documents w h }) =
    ap (λ r. import_answer r bytes (record { documents = documents w h })) is in
    let fresh : import_answer (Ok d) bytes (record { documents = documents w h })
    ≡ answers (nat_lt count 4096) =
    λ i. refused_first (option_and_then (taken bytes) (new i)
    ∷ unless (is_some (new i) || nat_lt count 4096) (why.Full limit.Documents) ∷ [])
    (option_map_or (λ row. answered.Again row.number) (new i) (answered.Imported (count + 1))) in
    (λ less. read ∙ fresh ∙ found.0 less, λ at. read ∙ fresh ∙ found.1 at)

pub releases_full : (w : Readings) (h : List Command) (r form : List ℕ) → is_release_name r ≡ true
    → list_any (bytes_eq form) (forms_in (in_force w h)) ≡ true → is_some (form_of h r) ≡ false
    → IsFullAt 4096 limit.Releases (length (opened h)) answered.Done
    (answer w h (OpenRelease r form))
releases_full w h r form named known new =
    let count = length (opened h) in
    let answers = λ (room : Bool). refused_first (unless room (why.Full limit.Releases) ∷ [])
    answered.Done in
    let found = by_room 4096 limit.Releases count answered.Done answers refl refl in
    let same : answer w h (OpenRelease r form) ≡ answers (nat_lt count 4096) =
    λ i. refused_first (unless (named i) why.BadName ∷ unless (known i) why.UnknownForm
    ∷ unless (not (new i)) why.NameTaken
    ∷ unless (nat_lt count 4096) (why.Full limit.Releases) ∷ []) answered.Done in
    (λ less. same ∙ found.0 less, λ at. same ∙ found.1 at)

pub attached_full : (w : Readings) (h : List Command) (r : List ℕ) (d : ℕ)
    → release_state h r ≡ Some release.IsOpen → has_document w h d ≡ true
    → list_any (is_attachment r d) (attached h) ≡ false
    → IsFullAt 64 limit.Attached (length (attached_to (attached h) r)) answered.Done
    (answer w h (Attach r d))
attached_full w h r d ready there new =
    let count = length (attached_to (attached h) r) in
    let answers = λ (room : Bool). refused_first (unless room (why.Full limit.Attached) ∷ [])
    answered.Done in
    let found = by_room 64 limit.Attached count answered.Done answers refl refl in
    let same : answer w h (Attach r d) ≡ answers (nat_lt count 64) =
    λ i. refused_first (unless (is_some (ready i)) why.UnknownRelease
    ∷ unless (there i) why.UnknownDocument ∷ option_and_then unready (ready i)
    ∷ unless (not (new i)) why.AlreadyAttached
    ∷ unless (nat_lt count 64) (why.Full limit.Attached) ∷ []) answered.Done in
    (λ less. same ∙ found.0 less, λ at. same ∙ found.1 at)

pub adoptions_full : (w : Readings) (h : List Command) (d : ℕ) (reference licence : List ℕ)
    → is_reference w reference ≡ true → is_plain w licence ≡ true → has_document w h d ≡ true
    → is_some (licence_for (adoptions w h) d (unwrap_or (w.term reference) [])) ≡ false
    → IsFullAt 10000 limit.Adoptions (length (filter (is_adoption_in d) (adoptions w h)))
    answered.Done (answer w h (Adopt d reference licence))
adoptions_full w h d reference licence one plain there new =
    let count = length (filter (is_adoption_in d) (adoptions w h)) in
    let answers = λ (room : Bool). refused_first (unless room (why.Full limit.Adoptions) ∷ [])
    answered.Done in
    let found = by_room 10000 limit.Adoptions count answered.Done answers refl refl in
    let same : answer w h (Adopt d reference licence) ≡ answers (nat_lt count 10000) =
    λ i. refused_first (unless (one i) (why.BadTerm 0) ∷ unless (plain i) (why.BadTerm 1)
    ∷ unless (there i) why.UnknownDocument
    ∷ unless (new i || nat_lt count 10000) (why.Full limit.Adoptions) ∷ []) answered.Done in
    (λ less. same ∙ found.0 less, λ at. same ∙ found.1 at)

pub duties_full : (w : Readings) (h : List Command) (r day : List ℕ) → is_day day ≡ true
    → release_state h r ≡ Some release.IsOpen → 0 < length (attached_to (attached h) r)
    → let found = freezing w h r in found.fault ≡ None
    → IsFullAt 100001 limit.Duties (length (raised w h) + length (owed_at w h r))
    (answered.Frozen (length (raised w h) + 1) (length (owed_at w h r))) (answer w h (Freeze r day))
duties_full w h r day dated ready some faultless =
    let before = length (raised w h) in
    let more = length (owed_at w h r) in
    let done = answered.Frozen (before + 1) more in
    let answers = λ (room : Bool). refused_first (unless room (why.Full limit.Duties) ∷ []) done in
    let found = by_room 100001 limit.Duties (before + more) done answers refl refl in
    let attached_some : nat_lt 0 (length (attached_to (attached h) r)) ≡ true =
    grind (arith, nat_tests) in
    let rooms : nat_le (before + more) 100000 ≡ nat_lt (before + more) 100001 =
    same_room (before + more) 100000 in
    let same : answer w h (Freeze r day) ≡ answers (nat_lt (before + more) 100001) =
    λ i. refused_first (unless (dated i) why.BadDay ∷ unless (is_some (ready i)) why.UnknownRelease
    ∷ option_and_then unready (ready i) ∷ unless (attached_some i) why.EmptyRelease ∷ faultless i
    ∷ unless (rooms i) (why.Full limit.Duties) ∷ []) done in
    (λ less. same ∙ found.0 less, λ at. same ∙ found.1 at)
  where
    same_room : (n m : ℕ) → nat_le n m ≡ nat_lt n (m + 1)
    same_room n m = grind (arith, nat_tests)

pub changes_full : (w : Readings) (h : List Command) (q : ℕ) (day text : List ℕ) (d : ℕ × Owed)
    → is_day day ≡ true → is_note text ≡ true → duty_at w h q ≡ Some d
    → release_state_of h (Some d) ≡ release.Frozen → place w h d.0 ≡ duty.IsOpen
    → IsFullAt 999 limit.Changes (length (moves w h q)) answered.Done (answer w h (Meet q day text))
changes_full w h q day text d dated noted there frozen open_now =
    let count = length (moves w h q) in
    let answers = λ (room : Bool). refused_first (unless room (why.Full limit.Changes) ∷ [])
    answered.Done in
    let found = by_room 999 limit.Changes count answered.Done answers refl refl in
    let placed : option_map (λ (e : ℕ × Owed). place w h e.0) (duty_at w h q) ≡ Some duty.IsOpen =
    ap (option_map (λ (e : ℕ × Owed). place w h e.0)) there ∙ ap Some open_now in
    let owner : release_state_of h (duty_at w h q) ≡ release.Frozen =
    ap (release_state_of h) there ∙ frozen in
    let same : answer w h (Meet q day text) ≡ answers (nat_lt count 999) =
    λ i. refused_first (unless (dated i && true) why.BadDay ∷ unless (noted i) why.BadText
    ∷ unless true why.BadEnd ∷ unless (is_some (placed i)) why.UnknownDuty ∷ gone (owner i)
    ∷ option_and_then (settled word.Met) (placed i)
    ∷ unless (nat_lt count 999) (why.Full limit.Changes) ∷ []) answered.Done in
    (λ less. same ∙ found.0 less, λ at. same ∙ found.1 at)
