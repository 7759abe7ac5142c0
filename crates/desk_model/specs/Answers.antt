-- The answer to each command: the first refusal that applies, or else what was done. Each is a
-- function of what is looked up.
use Rattle.std.specs.Prelude.{ℕ, ◌+◌, filter, map, ◌&&◌, ◌||◌, nat_lt, nat_le, not, Bool, true}
use Rattle.std.specs.Prelude.{false, List, [], ◌∷◌, length, find, slice_index_or, Option, Some}
use Rattle.std.specs.Prelude.{None, is_some, is_none, unwrap_or, Result, IsTrue, if◌then◌else◌}
use Rattle.std.specs.List.{list_any, filter_map}
use Rattle.std.specs.Option.{option_map, option_map_or, option_and_then}
use Rattle.std.specs.Result.{result_ok, result_err}
use Rattle.std.specs.Str.{bytes_eq}
use Rattle.desk_base.specs.Day.{is_day}
use Rattle.desk_base.specs.Limits as most
use Rattle.desk_model.specs.Lists.{or_else}
use Rattle.desk_model.specs.Texts.{is_release_name, is_note}
use Rattle.desk_model.specs.Readings.{Readings}
use Rattle.desk_model.specs.Keys.{is_document, has_namespace, is_package, is_attachment, is_adoption_in}
use Rattle.desk_model.specs.History.{revisions, in_force, rules_in, forms_in, documents, packages}
use Rattle.desk_model.specs.History.{choice, opened, form_of, state_of, attached, attached_to}
use Rattle.desk_model.specs.Conclusions.{conclusions, conclusion_in, adoptions, adoption_row}
use Rattle.desk_model.specs.Conclusions.{licence_for, is_reference, is_plain, holder}
use Rattle.desk_model.specs.Tables.{release_rows, choices}
use Rattle.desk_model.specs.declared.row.Owed.{Owed}
use Rattle.desk_model.specs.Raised.{shipped, rule_adopted, chosen_in, owed_at, raised, numbered}
use Rattle.desk_model.specs.Moves.{duty_at, moves, place, end_after, has_ended, is_over}
use Rattle.desk_model.specs.States.{goes_from}
use Rattle.desk_model.specs.declared.state.Word.{Word}
use Rattle.desk_model.specs.declared.state.Word.TheVariants as word
use Rattle.desk_model.specs.declared.reading.Catalogue.{Catalogue}
use Rattle.desk_model.specs.declared.reading.Rule.{Rule}
use Rattle.desk_model.specs.declared.reading.Document.{Document}
use Rattle.desk_base.specs.declared.profile.Profile.TheVariants.{Capitals}
use Rattle.desk_model.specs.declared.reading.Conclusion.{Conclusion}
use Rattle.desk_model.specs.declared.reading.Verdict.{Verdict}
use Rattle.desk_model.specs.declared.reading.Verdict.TheVariants as verdict
use Rattle.desk_model.specs.declared.refusal.CatalogueFault.{CatalogueFault}
use Rattle.desk_model.specs.declared.refusal.DocumentFault.{DocumentFault}
use Rattle.desk_model.specs.declared.refusal.ExpressionFault.{ExpressionFault}
use Rattle.desk_model.specs.declared.row.AdoptionRow.{AdoptionRow}
use Rattle.desk_model.specs.declared.refusal.Limit.TheVariants as limit
use Rattle.desk_model.specs.declared.refusal.Refusal.{Refusal}
use Rattle.desk_model.specs.declared.refusal.Refusal.TheVariants as why
use Rattle.desk_model.specs.declared.row.DocumentRow.{DocumentRow}
use Rattle.desk_model.specs.declared.row.PackageRow.{PackageRow}
use Rattle.desk_model.specs.declared.state.ReleaseState.{ReleaseState}
use Rattle.desk_model.specs.declared.state.ReleaseState.TheVariants as release
use Rattle.desk_model.specs.declared.state.DutyState.{DutyState}
use Rattle.desk_model.specs.declared.command.Answer.{Answer}
use Rattle.desk_model.specs.declared.command.Answer.TheVariants as answered
use Rattle.desk_model.specs.declared.command.Command.{Command}
use Rattle.desk_model.specs.declared.command.Command.TheVariants.{LoadCatalogue, Import}
use Rattle.desk_model.specs.declared.command.Command.TheVariants.{OpenRelease, Attach, Choose}
use Rattle.desk_model.specs.declared.command.Command.TheVariants.{Unchoose, Freeze, Meet, Waive}
use Rattle.desk_model.specs.declared.command.Command.TheVariants.{Reopen, Withdraw, CloseDay}
use Rattle.desk_model.specs.declared.command.Command.TheVariants.{Conclude, Adopt}

-- the refusal, or the answer if there is none
abbrev pub refused_or : Option Refusal → Answer → Answer
refused_or None answer = answer
refused_or (Some refusal) answer = answered.Refused refusal

-- the first of some refusals that applies, or else the answer
abbrev pub refused_first : List (Option Refusal) → Answer → Answer
refused_first [] answer = answer
refused_first (refusal ∷ refusals) answer = refused_or refusal (refused_first refusals answer)

-- a refusal that applies unless this is so
abbrev pub unless : Bool → Refusal → Option Refusal
unless so refusal = if so then None else Some refusal

-- the first of some refusals that applies
abbrev pub first_refusal : List (Option Refusal) → Option Refusal
first_refusal [] = None
first_refusal (refusal ∷ refusals) = or_else refusal (first_refusal refusals)

-- what a LoadCatalogue looks up: how many revisions there are
pub record Loading : Type 0 where
  pub revisions : ℕ

-- LoadCatalogue, of a text that was read
abbrev pub load_answer : Result Catalogue CatalogueFault → Loading → Answer
load_answer catalogue found = refused_first (
    option_map (λ fault. why.BadCatalogue fault) (result_err catalogue)
    ∷ unless (nat_lt found.revisions most.revisions) (why.Full limit.Revisions)
    ∷ []) (answered.Revision (found.revisions + 1))

-- the document with the namespace of one that was read
abbrev pub same_namespace : Result Document DocumentFault → List DocumentRow → Option DocumentRow
same_namespace document rows = option_and_then (λ d. find (has_namespace d.namespace) rows)
    (result_ok document)

-- a document with other bytes
abbrev pub taken : List ℕ → DocumentRow → Option Refusal
taken bytes row = unless (bytes_eq row.bytes bytes) (why.NamespaceTaken row.number)

-- what an Import looks up: the documents
pub record Importing : Type 0 where
  pub documents : List DocumentRow

-- Import, of bytes that were read; a document with the same bytes is answered Again
abbrev pub import_answer : Result Document DocumentFault → List ℕ → Importing → Answer
import_answer document bytes found =
    let old = same_namespace document found.documents in
    refused_first (
    option_map (λ fault. why.BadDocument fault) (result_err document)
    ∷ option_and_then (taken bytes) old
    ∷ unless (is_some old || nat_lt (length found.documents) most.documents)
    (why.Full limit.Documents)
    ∷ []) (option_map_or (λ row. answered.Again row.number) old
    (answered.Imported (length found.documents + 1)))

-- what an OpenRelease looks up: the forms in force, whether the name is taken, how many releases
-- there are
pub record Opening : Type 0 where
  pub forms : List (List ℕ)
  pub is_taken : Bool
  pub releases : ℕ

-- OpenRelease, of a release with this name and form; both compare byte for byte
abbrev pub open_answer : List ℕ → List ℕ → Opening → Answer
open_answer name form found = refused_first (
    unless (is_release_name name) why.BadName
    ∷ unless (list_any (bytes_eq form) found.forms) why.UnknownForm
    ∷ unless (not found.is_taken) why.NameTaken
    ∷ unless (nat_lt found.releases most.releases) (why.Full limit.Releases)
    ∷ []) answered.Done

-- a release that isn't open
abbrev pub unready : ReleaseState → Option Refusal
unready release.IsOpen = None
unready state = Some (why.ReleaseState state)

-- what an Attach looks up: the release's state, the document, whether it is attached already, how
-- many are
pub record Attaching : Type 0 where
  pub state : Option ReleaseState
  pub has_document : Bool
  pub is_attached : Bool
  pub attached : ℕ

-- Attach: the release must be open, and a release has at most 64 documents
abbrev pub attach_answer : Attaching → Answer
attach_answer found = refused_first (
    unless (is_some found.state) why.UnknownRelease
    ∷ unless found.has_document why.UnknownDocument
    ∷ option_and_then unready found.state
    ∷ unless (not found.is_attached) why.AlreadyAttached
    ∷ unless (nat_lt found.attached most.attached) (why.Full limit.Attached)
    ∷ []) answered.Done

-- the place of the first text that spells no term
abbrev pub first_bad : Readings → ℕ → List (List ℕ) → Option ℕ
first_bad w i [] = None
first_bad w i (text ∷ texts) = if is_some (w.term text) then first_bad w (i + 1) texts else Some i

-- a package without a conclusion
abbrev pub unconcluded : Option Conclusion → PackageRow → Option Refusal
unconcluded conclusion p = unless (is_some conclusion) (why.NoConclusion p.document p.id)

-- terms that don't satisfy the conclusion
abbrev pub not_enough : Verdict → Option Refusal
not_enough verdict.NotEnough = Some why.NotEnough
not_enough _ = None

-- terms of which one can go
abbrev pub not_minimal : List (List ℕ) → Verdict → Option Refusal
not_minimal terms (verdict.Superfluous i) = Some (why.NotMinimal (slice_index_or terms i []))
not_minimal terms _ = None

-- what a Choose looks up: the release's state, the document, the package, whether the document is
-- attached, and the package's conclusion
pub record Choosing : Type 0 where
  pub state : Option ReleaseState
  pub has_document : Bool
  pub row : Option PackageRow
  pub is_attached : Bool
  pub conclusion : Option Conclusion

-- whether the package of an attached document is shipped
abbrev pub is_shipped : Choosing → Bool
is_shipped found = found.is_attached && option_map_or (λ row. row.shipped) found.row false

-- the verdict on terms for a conclusion
abbrev pub verdict_on : Readings → Option Conclusion → List (List ℕ) → Option Verdict
verdict_on w conclusion terms = option_map (λ c. w.verdict c.profile c.text terms) conclusion

-- Choose, of terms that texts spell: they count as a set, and NotMinimal names the first one listed
-- that can go
abbrev pub choose_answer : Readings → List (List ℕ) → Choosing → Answer
choose_answer w texts found =
    let terms = filter_map w.term texts in
    refused_first (
    option_map (λ i. why.BadTerm i) (first_bad w 0 texts)
    ∷ unless (is_some found.state) why.UnknownRelease
    ∷ unless found.has_document why.UnknownDocument
    ∷ unless (is_some found.row) why.UnknownPackage
    ∷ option_and_then unready found.state
    ∷ unless (is_shipped found) why.NotShipped
    ∷ option_and_then (unconcluded found.conclusion) found.row
    ∷ option_and_then not_enough (verdict_on w found.conclusion terms)
    ∷ option_and_then (not_minimal terms) (verdict_on w found.conclusion terms)
    ∷ []) answered.Done

-- what an Unchoose looks up: the release's state, the document, the package, the terms chosen for
-- it
pub record Unchoosing : Type 0 where
  pub state : Option ReleaseState
  pub has_document : Bool
  pub has_package : Bool
  pub chosen : List (List ℕ)

-- Unchoose, of a package of a document: there must be a choice to drop
abbrev pub unchoose_answer : ℕ → List ℕ → Unchoosing → Answer
unchoose_answer d p found = refused_first (
    unless (is_some found.state) why.UnknownRelease
    ∷ unless found.has_document why.UnknownDocument
    ∷ unless found.has_package why.UnknownPackage
    ∷ option_and_then unready found.state
    ∷ unless (nat_lt 0 (length found.chosen)) (why.NoChoice d p)
    ∷ []) answered.Done

-- Freeze goes through the shipped packages, up to the first that fails: one without a choice

-- no term is chosen
abbrev pub unchosen : PackageRow → List (List ℕ) → Option Refusal
unchosen p [] = Some (why.NoChoice p.document p.id)
unchosen p (t ∷ ts) = None

-- a reference of the document without adoption
abbrev pub unadopted : Readings → List AdoptionRow → ℕ → List ℕ → Option Refusal
unadopted w licences d term =
    option_and_then (λ reference. unless (is_some (licence_for licences d reference))
    (why.NotAdopted d reference)) (w.reference term)

-- the first term, in the order of terms, that is such a reference
abbrev pub first_unadopted : Readings → List AdoptionRow → ℕ → List (List ℕ) → Option Refusal
first_unadopted w licences d terms = first_refusal (map (unadopted w licences d) terms)

-- a term whose adopted form has no rule
abbrev pub unruled : Readings → List AdoptionRow → List Rule → List ℕ → PackageRow → List ℕ
    → Option Refusal
unruled w licences rules form p term = unless
    (is_some (rule_adopted w licences rules form p.document term)) (why.NoRule p.document p.id term)

-- the first term, in the order of terms, that has none
abbrev pub first_unruled : Readings → List AdoptionRow → List Rule → List ℕ → PackageRow
    → List (List ℕ) → Option Refusal
first_unruled w licences rules form p terms = first_refusal
    (map (unruled w licences rules form p) terms)

-- why a package with this conclusion and these terms fails
abbrev pub package_fault : Readings → List AdoptionRow → List Rule → List ℕ → Option Conclusion
    → List (List ℕ) → PackageRow → Option Refusal
package_fault w licences rules form conclusion terms p = first_refusal (
    unconcluded conclusion p
    ∷ unchosen p terms
    ∷ first_unadopted w licences p.document terms
    ∷ first_unruled w licences rules form p terms
    ∷ [])

-- the first package that fails, given each package's conclusion and chosen terms
abbrev pub walk : Readings → List AdoptionRow → List Rule → List ℕ
    → (PackageRow → Option Conclusion) → (PackageRow → List (List ℕ)) → List PackageRow
    → Option Refusal
walk w licences rules form conclusion chosen ps = first_refusal
    (map (λ p. package_fault w licences rules form (conclusion p) (chosen p) p) ps)

-- what a Freeze looks up: the release's state, how many documents are attached, what the walk
-- refuses, how many duties there are, and how many it would raise
pub record Freezing : Type 0 where
  pub state : Option ReleaseState
  pub attached : ℕ
  pub fault : Option Refusal
  pub raised : ℕ
  pub owed : ℕ

-- Freeze on a day: the number of the first duty that it raises, and how many; if it raises none,
-- that is the next free number and 0
abbrev pub freeze_answer : List ℕ → Freezing → Answer
freeze_answer day found = refused_first (
    unless (is_day day) why.BadDay
    ∷ unless (is_some found.state) why.UnknownRelease
    ∷ option_and_then unready found.state
    ∷ unless (nat_lt 0 found.attached) why.EmptyRelease
    ∷ found.fault
    ∷ unless (nat_le (found.raised + found.owed) most.duties) (why.Full limit.Duties)
    ∷ []) (answered.Frozen (found.raised + 1) found.owed)

-- a release that is withdrawn
abbrev pub gone : ReleaseState → Option Refusal
gone release.Withdrawn = Some (why.ReleaseState release.Withdrawn)
gone _ = None

-- a duty in a state from which it can't be moved like this
abbrev pub settled : Word → DutyState → Option Refusal
settled word state = unless (goes_from word state) (why.DutyState state)

-- what a Meet, a Waive and a Reopen look up: the duty's state, the state of its release, how many
-- changes it has
pub record Moving : Type 0 where
  pub place : Option DutyState
  pub release : ReleaseState
  pub steps : ℕ

-- Meet, Waive and Reopen; the second day, if there is one, is the last day of a waiver that ends
abbrev pub move_answer : Word → List ℕ → List ℕ → Option (List ℕ) → Moving → Answer
move_answer word day text until found = refused_first (
    unless (is_day day && option_map_or is_day until true) why.BadDay
    ∷ unless (is_note text) why.BadText
    ∷ unless (not (is_over day until)) why.BadEnd
    ∷ unless (is_some found.place) why.UnknownDuty
    ∷ gone found.release
    ∷ option_and_then (settled word) found.place
    ∷ unless (nat_lt found.steps most.changes) (why.Full limit.Changes)
    ∷ []) answered.Done

-- what a Withdraw looks up: the release's state
pub record Withdrawing : Type 0 where
  pub state : Option ReleaseState

-- Withdraw, on a day and with a text: an open or a frozen release can go
abbrev pub withdraw_answer : List ℕ → List ℕ → Withdrawing → Answer
withdraw_answer day text found = refused_first (
    unless (is_day day) why.BadDay
    ∷ unless (is_note text) why.BadText
    ∷ unless (is_some found.state) why.UnknownRelease
    ∷ option_and_then gone found.state
    ∷ []) answered.Done

-- what a CloseDay looks up: how many waivers end
pub record Closing : Type 0 where
  pub ended : ℕ

-- CloseDay: how many waivers end, also if that is none
abbrev pub close_answer : List ℕ → Closing → Answer
close_answer day found = refused_first (
    unless (is_day day) why.BadDay
    ∷ []) (answered.Closed found.ended)

-- what a Conclude looks up: why the text is no expression, the document, the package, the release
-- that holds a choice for it
pub record Concluding : Type 0 where
  pub fault : Option ExpressionFault
  pub has_document : Bool
  pub has_package : Bool
  pub holder : Option (List ℕ)

-- Conclude: a conclusion can't change while some release holds a choice for the package
abbrev pub conclude_answer : Concluding → Answer
conclude_answer found = refused_first (
    option_map (λ fault. why.BadExpression fault) found.fault
    ∷ unless found.has_document why.UnknownDocument
    ∷ unless found.has_package why.UnknownPackage
    ∷ option_map (λ r. why.Chosen r) found.holder
    ∷ []) answered.Done

-- what an Adopt looks up: whether its texts are a reference alone and a licence alone, the
-- document, whether the reference is adopted already, and how many references of the document are
pub record Adopting : Type 0 where
  pub is_reference : Bool
  pub is_licence : Bool
  pub has_document : Bool
  pub is_adopted : Bool
  pub adoptions : ℕ

-- Adopt: a reference may be adopted anew, and only a new one counts towards the limit
abbrev pub adopt_answer : Adopting → Answer
adopt_answer found = refused_first (
    unless found.is_reference (why.BadTerm 0)
    ∷ unless found.is_licence (why.BadTerm 1)
    ∷ unless found.has_document why.UnknownDocument
    ∷ unless (found.is_adopted || nat_lt found.adoptions most.adoptions) (why.Full limit.Adoptions)
    ∷ []) answered.Done

-- Over a history

-- the state of a release, if it was opened
abbrev pub release_state : List Command → List ℕ → Option ReleaseState
release_state h r = option_map (λ form. state_of h r) (form_of h r)

-- the conclusion in force for a package
abbrev pub conclusion : Readings → List Command → PackageRow → Option Conclusion
conclusion w h = conclusion_in w (documents w h) (conclusions h)

-- the state of a duty's release
abbrev pub release_state_of : List Command → Option (ℕ × Owed) → ReleaseState
release_state_of h duty = option_map_or
    (λ d. unwrap_or (release_state h d.1.release) release.IsOpen) duty release.IsOpen

-- a document was imported
abbrev pub has_document : Readings → List Command → ℕ → Bool
has_document w h d = is_some (find (is_document d) (documents w h))

-- the package of a document with an id
abbrev pub package_at : Readings → List Command → ℕ → List ℕ → Option PackageRow
package_at w h d p = find (is_package d p) (packages w h)

-- What each command looks up in a history

-- for LoadCatalogue, of any text
abbrev pub loading : List Command → Loading
loading h = record { revisions = length (revisions h) }

-- for Import, of any bytes
abbrev pub importing : Readings → List Command → Importing
importing w h = record { documents = documents w h }

-- for OpenRelease, of a release with this name
abbrev pub opening : Readings → List Command → List ℕ → Opening
opening w h r = record {
  forms = forms_in (in_force w h);
  is_taken = is_some (form_of h r);
  releases = length (opened h);
}

-- for Attach, of this release and document
abbrev pub attaching : Readings → List Command → List ℕ → ℕ → Attaching
attaching w h r d = record {
  state = release_state h r;
  has_document = has_document w h d;
  is_attached = list_any (is_attachment r d) (attached h);
  attached = length (attached_to (attached h) r);
}

-- for Choose, of this release, document and package
abbrev pub choosing : Readings → List Command → List ℕ → ℕ → List ℕ → Choosing
choosing w h r d p = record {
  state = release_state h r;
  has_document = has_document w h d;
  row = package_at w h d p;
  is_attached = list_any (is_attachment r d) (attached h);
  conclusion = option_and_then (conclusion w h) (package_at w h d p);
}

-- for Unchoose, of this release, document and package
abbrev pub unchoosing : Readings → List Command → List ℕ → ℕ → List ℕ → Unchoosing
unchoosing w h r d p = record {
  state = release_state h r;
  has_document = has_document w h d;
  has_package = is_some (package_at w h d p);
  chosen = choice w h r d p;
}

-- for Freeze, of this release; the walk goes by the catalogue, the adoptions and the conclusions in
-- force now
abbrev pub freezing : Readings → List Command → List ℕ → Freezing
freezing w h r =
    let form = unwrap_or (form_of h r) [] in
    record {
      state = release_state h r;
      attached = length (attached_to (attached h) r);
      fault = walk w (adoptions w h) (rules_in (in_force w h)) form (conclusion w h)
          (chosen_in w h r) (shipped w h r);
      raised = length (raised w h);
      owed = length (owed_at w h r);
    }

-- for Meet, Waive and Reopen, of the duty with this number
abbrev pub moving : Readings → List Command → ℕ → Moving
moving w h q = record {
  place = option_map (λ d. place w h d.0) (duty_at w h q);
  release = release_state_of h (duty_at w h q);
  steps = length (moves w h q);
}

-- for Conclude, of this document, package and text; what the office writes has its operators in
-- capitals
abbrev pub concluding : Readings → List Command → ℕ → List ℕ → List ℕ → Concluding
concluding w h d p text = record {
  fault = w.expression_fault Capitals text;
  has_document = has_document w h d;
  has_package = is_some (package_at w h d p);
  holder = holder (release_rows h) (choices w h) d p;
}

-- for Adopt, of this document, reference and licence
abbrev pub adopting : Readings → List Command → ℕ → List ℕ → List ℕ → Adopting
adopting w h d reference licence =
    let row = adoption_row w d reference licence in
    record {
      is_reference = is_reference w reference;
      is_licence = is_plain w licence;
      has_document = has_document w h d;
      is_adopted = is_some (licence_for (adoptions w h) d row.reference);
      adoptions = length (filter (is_adoption_in d) (adoptions w h));
    }

-- for Withdraw, of this release
abbrev pub withdrawing : List Command → List ℕ → Withdrawing
withdrawing h r = record { state = release_state h r }

-- for CloseDay, on this day
abbrev pub closing : Readings → List Command → List ℕ → Closing
closing w h day = record {
  ended = length (filter (λ d. has_ended day (place w h d.0) (end_after (moves w h d.0)))
      (numbered w h));
}

-- The answer to a command after a history
abbrev pub answer : Readings → List Command → Command → Answer
answer w h (LoadCatalogue text) = load_answer (w.catalogue text) (loading h)
answer w h (Import bytes profile) = import_answer (w.document bytes) bytes (importing w h)
answer w h (OpenRelease r form) = open_answer r form (opening w h r)
answer w h (Attach r d) = attach_answer (attaching w h r d)
answer w h (Choose r d p texts) = choose_answer w texts (choosing w h r d p)
answer w h (Unchoose r d p) = unchoose_answer d p (unchoosing w h r d p)
answer w h (Freeze r day) = freeze_answer day (freezing w h r)
answer w h (Conclude d p text) = conclude_answer (concluding w h d p text)
answer w h (Adopt d reference licence) = adopt_answer (adopting w h d reference licence)
answer w h (Meet q day text) = move_answer word.Met day text None (moving w h q)
answer w h (Waive q day text until) = move_answer word.Waived day text until (moving w h q)
answer w h (Reopen q day text) = move_answer word.Reopened day text None (moving w h q)
answer w h (Withdraw r day text) = withdraw_answer day text (withdrawing h r)
answer w h (CloseDay day) = close_answer day (closing w h day)

-- whether it is refused because of its days or its text
abbrev pub refused_by : List ℕ → List ℕ → Option (List ℕ) → Bool
refused_by day text until = not (is_day day && option_map_or is_day until true && is_note text
    && not (is_over day until))

-- a refusal that is decided from the command alone: its texts are no catalogue, document, term,
-- name, day or note, or its waiver would end before its day
abbrev pub refused_alone : Readings → Command → Bool
refused_alone w (LoadCatalogue text) = is_none (result_ok (w.catalogue text))
refused_alone w (Import bytes profile) = is_none (result_ok (w.document bytes))
refused_alone w (OpenRelease r form) = not (is_release_name r)
refused_alone w (Choose r d p texts) = is_some (first_bad w 0 texts)
refused_alone w (Freeze r day) = not (is_day day)
refused_alone w (Meet q day text) = refused_by day text None
refused_alone w (Waive q day text until) = refused_by day text until
refused_alone w (Reopen q day text) = refused_by day text None
refused_alone w (Withdraw r day text) = refused_by day text None
refused_alone w (CloseDay day) = not (is_day day)
refused_alone w (Conclude d p text) = is_some (w.expression_fault Capitals text)
refused_alone w (Adopt d reference licence) = not (is_reference w reference && is_plain w licence)
refused_alone w _ = false

-- a command is recorded if it is neither refused nor answered Again
abbrev pub is_recorded : Answer → Bool
is_recorded (answered.Again n) = false
is_recorded (answered.Refused refusal) = false
is_recorded _ = true

-- the history after a command, which is added if it is recorded
abbrev pub noted : Readings → List Command → Command → List Command
noted w h c = if is_recorded (answer w h c) then c ∷ h else h

-- a list of recorded commands
abbrev pub IsHistory : Readings → List Command → Type 0
IsHistory w [] = Unit {0}
IsHistory w (c ∷ h) = IsTrue (is_recorded (answer w h c)) × IsHistory w h
