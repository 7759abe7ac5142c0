-- Which refusals a command alone decides.
use Rattle.std.proofs.Common.{◌≡◌, ◌∙◌, ◌⊎◌, inl, inr, ℕ, Bool, true, false, List, [], ◌∷◌, map, refl}
use Rattle.std.proofs.Common.{Option, Some, None, Result, Ok, Err}
use Rattle.std.specs.Prelude.{◌&&◌, ◌||◌, ◌+◌, not, nat_lt, nat_le, length, is_some, is_none, unwrap_or}
use Rattle.std.specs.List.{filter_map, list_any}
use Rattle.std.specs.Str.{bytes_eq}
use Rattle.std.specs.Option.{option_map, option_map_or, option_and_then}
use Rattle.std.specs.Result.{result_ok}
use Rattle.desk_model.specs.Answers.{answer, is_recorded, refused_alone, refused_or, unless}
use Rattle.desk_model.specs.Answers.{refused_first, first_refusal, load_answer, import_answer}
use Rattle.desk_model.specs.Answers.{open_answer, attach_answer, choose_answer, unchoose_answer}
use Rattle.desk_model.specs.Answers.{freeze_answer, move_answer, withdraw_answer, conclude_answer}
use Rattle.desk_model.specs.Answers.{adopt_answer, Loading, Importing, Opening, Attaching, Choosing}
use Rattle.desk_model.specs.Answers.{Unchoosing, Moving, Withdrawing, Concluding, Adopting}
use Rattle.desk_model.specs.Answers.{Freezing, freezing, opening, attaching, choosing, unchoosing}
use Rattle.desk_model.specs.Answers.{loading, importing, moving, withdrawing, concluding, adopting}
use Rattle.desk_model.specs.Answers.{closing, conclusion, same_namespace, taken, unready, first_bad, is_shipped}
use Rattle.desk_model.specs.Answers.{unconcluded, not_enough, not_minimal, verdict_on, unchosen}
use Rattle.desk_model.specs.Answers.{unadopted, first_unadopted, unruled, first_unruled}
use Rattle.desk_model.specs.Answers.{package_fault, walk, gone, settled}
use Rattle.desk_model.specs.Conclusions.{adoptions, is_reference, licence_for}
use Rattle.desk_model.specs.History.{form_of, in_force, rules_in}
use Rattle.desk_model.specs.Moves.{is_over}
use Rattle.desk_model.specs.Raised.{rule_adopted, chosen_in, shipped}
use Rattle.desk_model.specs.States.{goes_from}
use Rattle.desk_model.specs.Texts.{is_note, is_release_name}
use Rattle.desk_base.specs.Day.{is_day}
use Rattle.desk_base.specs.Limits as most
use Rattle.desk_model.specs.declared.refusal.Limit.TheVariants as limit
use Rattle.desk_model.specs.declared.state.Word.TheVariants as word
use Rattle.desk_model.specs.Lists.{or_else}
use Rattle.desk_model.specs.Readings.{Readings}
use Rattle.desk_model.specs.declared.command.Answer.{Answer}
use Rattle.desk_model.specs.declared.command.Answer.TheVariants as answered
use Rattle.desk_model.specs.declared.command.Command.{Command}
use Rattle.desk_model.specs.declared.command.Command.TheVariants.{LoadCatalogue, Import}
use Rattle.desk_model.specs.declared.command.Command.TheVariants.{OpenRelease, Attach, Choose}
use Rattle.desk_model.specs.declared.command.Command.TheVariants.{Unchoose, Freeze, Meet, Waive}
use Rattle.desk_model.specs.declared.command.Command.TheVariants.{Reopen, Withdraw, CloseDay}
use Rattle.desk_model.specs.declared.command.Command.TheVariants.{Conclude, Adopt}
use Rattle.desk_model.specs.declared.reading.Catalogue.{Catalogue}
use Rattle.desk_model.specs.declared.reading.Conclusion.{Conclusion}
use Rattle.desk_model.specs.declared.reading.Document.{Document}
use Rattle.desk_model.specs.declared.reading.Rule.{Rule}
use Rattle.desk_model.specs.declared.reading.Verdict.{Verdict}
use Rattle.desk_model.specs.declared.reading.Verdict.TheVariants as verdict
use Rattle.desk_model.specs.declared.refusal.CatalogueFault.{CatalogueFault}
use Rattle.desk_model.specs.declared.refusal.DocumentFault.{DocumentFault}
use Rattle.desk_model.specs.declared.refusal.Refusal.{Refusal}
use Rattle.desk_model.specs.declared.refusal.Refusal.TheVariants as why
use Rattle.desk_model.specs.declared.row.AdoptionRow.{AdoptionRow}
use Rattle.desk_model.specs.declared.row.DocumentRow.{DocumentRow}
use Rattle.desk_model.specs.declared.row.PackageRow.{PackageRow}
use Rattle.desk_model.specs.declared.state.DutyState.{DutyState}
use Rattle.desk_model.specs.declared.state.ReleaseState.{ReleaseState}
use Rattle.desk_model.specs.declared.state.ReleaseState.TheVariants as release
use Rattle.desk_model.specs.declared.state.Word.{Word}
use Rattle.desk_history.specs.Alone.{is_refused_for_itself}

-- ---- recorded

pub not_recorded : (a : Answer) → is_recorded a ≡ false
    → ((n : ℕ) × (a ≡ answered.Again n)) ⊎ ((refusal : Refusal) × (a ≡ answered.Refused refusal))
not_recorded (answered.Again n) e = inl (n, refl)
not_recorded (answered.Refused refusal) e = inr (refusal, refl)
not_recorded _ e = absurd cc

-- ---- refusals that a history decides

abbrev is_own : Refusal → Bool
is_own refusal = is_refused_for_itself (answered.Refused refusal)

abbrev Clear : Option Refusal → Type 0
Clear None = Unit {0}
Clear (Some refusal) = is_own refusal ≡ false

past : (o : Option Refusal) (a : Answer) → Clear o → is_refused_for_itself a ≡ false
    → is_refused_for_itself (refused_or o a) ≡ false
past None a clear rest = rest
past (Some refusal) a clear rest = clear

abbrev AllClear : List (Option Refusal) → Type 0
AllClear [] = Unit {0}
AllClear (o ∷ os) = Clear o × AllClear os

all_past : (os : List (Option Refusal)) (a : Answer) → AllClear os
    → is_refused_for_itself a ≡ false → is_refused_for_itself (refused_first os a) ≡ false
all_past [] a clear rest = rest
all_past (o ∷ os) a clear rest = past o (refused_first os a) clear.0 (all_past os a clear.1 rest)

clear_unless : (so : Bool) (refusal : Refusal) → is_own refusal ≡ false → Clear (unless so refusal)
clear_unless true refusal own = tt
clear_unless false refusal own = own

clear_then : {A : Type 0} (f : A → Option Refusal) → ((x : A) → Clear (f x)) → (o : Option A)
    → Clear (option_and_then f o)
clear_then f clear None = tt
clear_then f clear (Some x) = clear x

clear_or : (a b : Option Refusal) → Clear a → Clear b → Clear (or_else a b)
clear_or None b clear rest = rest
clear_or (Some refusal) b clear rest = clear

clear_first : {A : Type 0} (f : A → Option Refusal) → ((x : A) → Clear (f x)) → (xs : List A)
    → Clear (first_refusal (map f xs))
clear_first f clear [] = tt
clear_first f clear (x ∷ xs) = clear_or (f x) (first_refusal (map f xs)) (clear x)
    (clear_first f clear xs)

clear_unready : (s : ReleaseState) → Clear (unready s)
clear_unready release.IsOpen = tt
clear_unready _ = refl

clear_gone : (s : ReleaseState) → Clear (gone s)
clear_gone release.Withdrawn = refl
clear_gone _ = tt

clear_enough : (v : Verdict) → Clear (not_enough v)
clear_enough verdict.NotEnough = refl
clear_enough _ = tt

clear_minimal : (terms : List (List ℕ)) (v : Verdict) → Clear (not_minimal terms v)
clear_minimal terms (verdict.Superfluous i) = refl
clear_minimal terms _ = tt

clear_unconcluded : (c : Option Conclusion) (p : PackageRow) → Clear (unconcluded c p)
clear_unconcluded c p = clear_unless (is_some c) (why.NoConclusion p.document p.id) refl

clear_unchosen : (p : PackageRow) (terms : List (List ℕ)) → Clear (unchosen p terms)
clear_unchosen p [] = refl
clear_unchosen p (t ∷ ts) = tt

clear_package : (w : Readings) (licences : List AdoptionRow) (rules : List Rule) (form : List ℕ)
    (c : Option Conclusion) (terms : List (List ℕ)) (p : PackageRow)
    → Clear (package_fault w licences rules form c terms p)
clear_package w licences rules form c terms p =
    let unruled_clear = clear_first (unruled w licences rules form p)
    (λ t. clear_unless (is_some (rule_adopted w licences rules form p.document t))
    (why.NoRule p.document p.id t) refl) terms in
    let unadopted_clear = clear_first (unadopted w licences p.document)
    (λ t. clear_then
    (λ reference. unless (is_some (licence_for licences p.document reference))
    (why.NotAdopted p.document reference))
    (λ reference. clear_unless (is_some (licence_for licences p.document reference))
    (why.NotAdopted p.document reference) refl) (w.reference t)) terms in
    clear_or (unconcluded c p) _ (clear_unconcluded c p)
    (clear_or (unchosen p terms) _ (clear_unchosen p terms)
    (clear_or (first_unadopted w licences p.document terms) _ unadopted_clear
    (clear_or (first_unruled w licences rules form p terms) None unruled_clear tt)))

clear_walk : (w : Readings) (licences : List AdoptionRow) (rules : List Rule) (form : List ℕ)
    (concluded : PackageRow → Option Conclusion) (chosen : PackageRow → List (List ℕ))
    (ps : List PackageRow) → Clear (walk w licences rules form concluded chosen ps)
clear_walk w licences rules form concluded chosen ps =
    clear_first (λ p. package_fault w licences rules form (concluded p) (chosen p) p)
    (λ p. clear_package w licences rules form (concluded p) (chosen p) p) ps

-- ---- refusals that come first

one : (so : Bool) (refusal : Refusal) (rest : Answer) → is_own refusal ≡ true
    → is_refused_for_itself rest ≡ false
    → is_refused_for_itself (refused_or (unless so refusal) rest) ≡ not so
one true refusal rest own later = later
one false refusal rest own later = own

two : (a b : Bool) (x y : Refusal) (rest : Answer) → is_own x ≡ true → is_own y ≡ true
    → is_refused_for_itself rest ≡ false
    → is_refused_for_itself (refused_or (unless a x) (refused_or (unless b y) rest))
    ≡ not (a && b)
two true b x y rest own own' later = one b y rest own' later
two false b x y rest own own' later = own

some_fault : {A : Type 0} (f : A → Refusal) → ((x : A) → is_own (f x) ≡ true) → (o : Option A)
    (rest : Answer) → is_refused_for_itself rest ≡ false
    → is_refused_for_itself (refused_or (option_map f o) rest) ≡ is_some o
some_fault f own None rest later = later
some_fault f own (Some x) rest later = own x

days : (d u n over : Bool) (rest : Answer) → is_refused_for_itself rest ≡ false
    → is_refused_for_itself (refused_or (unless (d && u) why.BadDay)
    (refused_or (unless n why.BadText) (refused_or (unless (not over) why.BadEnd) rest)))
    ≡ not (d && u && n && not over)
days false u n over rest later = refl
days true false n over rest later = refl
days true true false over rest later = refl
days true true true true rest later = refl
days true true true false rest later = later

-- ---- command by command

load : (r : Result Catalogue CatalogueFault) (found : Loading)
    → is_refused_for_itself (load_answer r found) ≡ is_none (result_ok r)
load (Ok catalogue) found = all_past
    (unless (nat_lt found.revisions most.revisions) (why.Full limit.Revisions) ∷ [])
    (answered.Revision (found.revisions + 1))
    (clear_unless (nat_lt found.revisions most.revisions) (why.Full limit.Revisions) refl, tt) refl
load (Err fault) found = refl

clear_taken : (bytes : List ℕ) (row : DocumentRow) → Clear (taken bytes row)
clear_taken bytes row = clear_unless (bytes_eq row.bytes bytes) (why.NamespaceTaken row.number) refl

imports : (old : Option DocumentRow) (n : ℕ) → is_refused_for_itself
    (option_map_or (λ (row : DocumentRow). answered.Again row.number) old (answered.Imported n))
    ≡ false
imports None n = refl
imports (Some row) n = refl

import : (r : Result Document DocumentFault) (bytes : List ℕ) (found : Importing)
    → is_refused_for_itself (import_answer r bytes found) ≡ is_none (result_ok r)
import (Ok document) bytes found =
    let old = same_namespace (Ok document) found.documents in
    let room = is_some old || nat_lt (length found.documents) most.documents in
    all_past (option_and_then (taken bytes) old ∷ unless room (why.Full limit.Documents) ∷ [])
    (option_map_or (λ (row : DocumentRow). answered.Again row.number) old
    (answered.Imported (length found.documents + 1))) (
      clear_then (taken bytes) (clear_taken bytes) old,
      (clear_unless room (why.Full limit.Documents) refl, tt),
    )
    (imports old (length found.documents + 1))
import (Err fault) bytes found = refl

opens : (name form : List ℕ) (found : Opening)
    → is_refused_for_itself (open_answer name form found) ≡ not (is_release_name name)
opens name form found =
    let known = list_any (bytes_eq form) found.forms in
    let free = not found.is_taken in
    let room = nat_lt found.releases most.releases in
    let rest = unless known why.UnknownForm ∷ unless free why.NameTaken
    ∷ unless room (why.Full limit.Releases) ∷ [] in
    one (is_release_name name) why.BadName (refused_first rest answered.Done) refl
    (all_past rest answered.Done (
      clear_unless known why.UnknownForm refl,
      (
        clear_unless free why.NameTaken refl,
        (clear_unless room (why.Full limit.Releases) refl, tt),
      ),
    ) refl)

attach : (found : Attaching) → is_refused_for_itself (attach_answer found) ≡ false
attach found =
    let known = is_some found.state in
    let free = not found.is_attached in
    let room = nat_lt found.attached most.attached in
    all_past (unless known why.UnknownRelease ∷ unless found.has_document why.UnknownDocument
    ∷ option_and_then unready found.state ∷ unless free why.AlreadyAttached
    ∷ unless room (why.Full limit.Attached) ∷ []) answered.Done (
      clear_unless known why.UnknownRelease refl,
      (
        clear_unless found.has_document why.UnknownDocument refl,
        (
          clear_then unready clear_unready found.state,
          (
            clear_unless free why.AlreadyAttached refl,
            (clear_unless room (why.Full limit.Attached) refl, tt),
          ),
        ),
      ),
    ) refl

choose : (w : Readings) (texts : List (List ℕ)) (found : Choosing)
    → is_refused_for_itself (choose_answer w texts found) ≡ is_some (first_bad w 0 texts)
choose w texts found =
    let terms = filter_map w.term texts in
    let judged = verdict_on w found.conclusion terms in
    let known = is_some found.state in
    let listed = is_some found.row in
    let ships = is_shipped found in
    let rest = unless known why.UnknownRelease ∷ unless found.has_document why.UnknownDocument
    ∷ unless listed why.UnknownPackage ∷ option_and_then unready found.state
    ∷ unless ships why.NotShipped ∷ option_and_then (unconcluded found.conclusion) found.row
    ∷ option_and_then not_enough judged ∷ option_and_then (not_minimal terms) judged ∷ [] in
    some_fault (λ i. why.BadTerm i) (λ i. refl) (first_bad w 0 texts)
    (refused_first rest answered.Done)
    (all_past rest answered.Done (
      clear_unless known why.UnknownRelease refl,
      (
        clear_unless found.has_document why.UnknownDocument refl,
        (
          clear_unless listed why.UnknownPackage refl,
          (
            clear_then unready clear_unready found.state,
            (
              clear_unless ships why.NotShipped refl,
              (
                clear_then (unconcluded found.conclusion) (clear_unconcluded found.conclusion) found.row,
                (
                  clear_then not_enough clear_enough judged,
                  (clear_then (not_minimal terms) (clear_minimal terms) judged, tt),
                ),
              ),
            ),
          ),
        ),
      ),
    ) refl)

unchoose : (d : ℕ) (p : List ℕ) (found : Unchoosing)
    → is_refused_for_itself (unchoose_answer d p found) ≡ false
unchoose d p found =
    let known = is_some found.state in
    let some = nat_lt 0 (length found.chosen) in
    all_past (unless known why.UnknownRelease ∷ unless found.has_document why.UnknownDocument
    ∷ unless found.has_package why.UnknownPackage ∷ option_and_then unready found.state
    ∷ unless some (why.NoChoice d p) ∷ []) answered.Done (
      clear_unless known why.UnknownRelease refl,
      (
        clear_unless found.has_document why.UnknownDocument refl,
        (
          clear_unless found.has_package why.UnknownPackage refl,
          (
            clear_then unready clear_unready found.state,
            (clear_unless some (why.NoChoice d p) refl, tt),
          ),
        ),
      ),
    ) refl

freeze : (day : List ℕ) (found : Freezing) → Clear found.fault
    → is_refused_for_itself (freeze_answer day found) ≡ not (is_day day)
freeze day found clear =
    let known = is_some found.state in
    let some = nat_lt 0 found.attached in
    let room = nat_le (found.raised + found.owed) most.duties in
    let rest = unless known why.UnknownRelease ∷ option_and_then unready found.state
    ∷ unless some why.EmptyRelease ∷ found.fault ∷ unless room (why.Full limit.Duties) ∷ [] in
    let done = answered.Frozen (found.raised + 1) found.owed in
    one (is_day day) why.BadDay (refused_first rest done) refl
    (all_past rest done (
      clear_unless known why.UnknownRelease refl,
      (
        clear_then unready clear_unready found.state,
        (
          clear_unless some why.EmptyRelease refl,
          (clear, (clear_unless room (why.Full limit.Duties) refl, tt)),
        ),
      ),
    ) refl)

move : (how : Word) (day text : List ℕ) (until : Option (List ℕ)) (found : Moving)
    → is_refused_for_itself (move_answer how day text until found)
    ≡ not (is_day day && option_map_or is_day until true && is_note text
    && not (is_over day until))
move how day text until found =
    let known = is_some found.place in
    let room = nat_lt found.steps most.changes in
    let rest = unless known why.UnknownDuty ∷ gone found.release
    ∷ option_and_then (settled how) found.place ∷ unless room (why.Full limit.Changes) ∷ [] in
    days (is_day day) (option_map_or is_day until true) (is_note text) (is_over day until)
    (refused_first rest answered.Done)
    (all_past rest answered.Done (
      clear_unless known why.UnknownDuty refl,
      (
        clear_gone found.release,
        (
          clear_then (settled how)
              (λ state. clear_unless (goes_from how state) (why.DutyState state) refl) found.place,
          (clear_unless room (why.Full limit.Changes) refl, tt),
        ),
      ),
    ) refl)

both : (a b : Bool) → not (a && b) ≡ not (a && true && b && true)
both false b = refl
both true false = refl
both true true = refl

withdraw : (day text : List ℕ) (found : Withdrawing)
    → is_refused_for_itself (withdraw_answer day text found)
    ≡ not (is_day day && true && is_note text && true)
withdraw day text found =
    let known = is_some found.state in
    let rest = unless known why.UnknownRelease ∷ option_and_then gone found.state ∷ [] in
    two (is_day day) (is_note text) why.BadDay why.BadText (refused_first rest answered.Done) refl
    refl
    (all_past rest answered.Done (
      clear_unless known why.UnknownRelease refl,
      (clear_then gone clear_gone found.state, tt),
    ) refl)
    ∙ both (is_day day) (is_note text)

conclude : (found : Concluding)
    → is_refused_for_itself (conclude_answer found) ≡ is_some found.fault
conclude found =
    let rest = unless found.has_document why.UnknownDocument
    ∷ unless found.has_package why.UnknownPackage ∷ option_map (λ r. why.Chosen r) found.holder
    ∷ [] in
    some_fault (λ fault. why.BadExpression fault) (λ fault. refl) found.fault
    (refused_first rest answered.Done)
    (all_past rest answered.Done (
      clear_unless found.has_document why.UnknownDocument refl,
      (
        clear_unless found.has_package why.UnknownPackage refl,
        (chosen found.holder, tt),
      ),
    ) refl)
  where
    chosen : (o : Option (List ℕ)) → Clear (option_map (λ r. why.Chosen r) o)
    chosen None = tt
    chosen (Some r) = refl

adopt : (found : Adopting)
    → is_refused_for_itself (adopt_answer found) ≡ not (found.is_reference && found.is_licence)
adopt found =
    let room = found.is_adopted || nat_lt found.adoptions most.adoptions in
    let rest = unless found.has_document why.UnknownDocument
    ∷ unless room (why.Full limit.Adoptions) ∷ [] in
    two found.is_reference found.is_licence (why.BadTerm 0) (why.BadTerm 1)
    (refused_first rest answered.Done) refl refl
    (all_past rest answered.Done (
      clear_unless found.has_document why.UnknownDocument refl,
      (clear_unless room (why.Full limit.Adoptions) refl, tt),
    ) refl)

pub alone : (w : Readings) (h : List Command) (c : Command)
    → is_refused_for_itself (answer w h c) ≡ refused_alone w c
alone w h (LoadCatalogue text) = load (w.catalogue text) (loading h)
alone w h (Import bytes profile) = import (w.document bytes) bytes (importing w h)
alone w h (OpenRelease r form) = opens r form (opening w h r)
alone w h (Attach r d) = attach (attaching w h r d)
alone w h (Choose r d p texts) = choose w texts (choosing w h r d p)
alone w h (Unchoose r d p) = unchoose d p (unchoosing w h r d p)
alone w h (Freeze r day) = freeze day (freezing w h r)
    (clear_walk w (adoptions w h) (rules_in (in_force w h)) (unwrap_or (form_of h r) [])
    (conclusion w h) (chosen_in w h r) (shipped w h r))
alone w h (Conclude d p text) = conclude (concluding w h d p text)
alone w h (Adopt d reference licence) = adopt (adopting w h d reference licence)
alone w h (Meet q day text) = move word.Met day text None (moving w h q)
alone w h (Waive q day text until) = move word.Waived day text until (moving w h q)
alone w h (Reopen q day text) = move word.Reopened day text None (moving w h q)
alone w h (Withdraw r day text) = withdraw day text (withdrawing h r)
alone w h (CloseDay day) = one (is_day day) why.BadDay
    (answered.Closed (closing w h day).ended) refl refl
