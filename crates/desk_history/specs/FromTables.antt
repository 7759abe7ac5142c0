-- The answer and the change of a command, from the rows of tables: what the code computes.
use Rattle.std.specs.Prelude.{ℕ, ◌+◌, Bool, not, List, [], ◌∷◌, length, filter, map, find, Option}
use Rattle.std.specs.Prelude.{None, is_some, unwrap_or, if◌then◌else◌}
use Rattle.std.specs.List.{list_any, enumerate_from, flat_map, last_or}
use Rattle.std.specs.Option.{option_map, option_map_or, option_and_then}
use Rattle.std.specs.Result.{result_ok}
use Rattle.desk_model.specs.Readings.{Readings}
use Rattle.desk_model.specs.Keys.{is_document, is_package, is_release, is_attachment, is_choice_of}
use Rattle.desk_model.specs.Keys.{is_duty, is_duty_of, is_change_of, is_rule_of, is_adoption_in}
use Rattle.desk_model.specs.History.{rules_in, forms_in, rule_row, namespace_in, packages_in}
use Rattle.desk_model.specs.History.{references_in, package_row, extracted_row, attached_to}
use Rattle.desk_model.specs.History.{term_set}
use Rattle.desk_model.specs.Conclusions.{conclusion_in, conclusion_row, adoption_row, licence_for}
use Rattle.desk_model.specs.Conclusions.{is_reference, is_plain, holder}
use Rattle.desk_model.specs.declared.row.Owed.{Owed}
use Rattle.desk_model.specs.Raised.{shipped_of, owed_for, frozen_for}
use Rattle.desk_model.specs.declared.row.Move.{Move}
use Rattle.desk_model.specs.Moves.{duty_row, change_row, has_ended}
use Rattle.desk_model.specs.States.{is_met}
use Rattle.desk_model.specs.declared.row.Standing.{Standing}
use Rattle.desk_model.specs.declared.state.Word.{Word}
use Rattle.desk_model.specs.Tables.{Tables, applied, choice_row}
use Rattle.desk_model.specs.Answers.{load_answer, import_answer, open_answer, attach_answer}
use Rattle.desk_model.specs.Answers.{choose_answer, freeze_answer, unchoose_answer, Loading}
use Rattle.desk_model.specs.Answers.{Importing, Opening, Attaching, Choosing, Unchoosing, Freezing}
use Rattle.desk_model.specs.Answers.{Withdrawing, Closing, Moving, Concluding, Adopting}
use Rattle.desk_model.specs.Answers.{move_answer, withdraw_answer, close_answer, conclude_answer}
use Rattle.desk_model.specs.Answers.{adopt_answer, walk, is_recorded}
use Rattle.desk_model.specs.Obstacles.{Obstacles, package_refusals, shipped_refusals, wanting_answer}
use Rattle.desk_model.specs.Queries.{document_line, duty_line, open_duties, package_line, release_line, totals_of}
use Rattle.desk_model.specs.Ready.{keeps_back, ready_answer}
use Rattle.desk_model.specs.Bills.{bill_answer, bill_of, revision_text}
use Rattle.desk_model.specs.Gaps.{Sources, gaps_answer, gaps_of, possible_terms, revision_for}
use Rattle.desk_model.specs.Findings.{findings_answer}
use Rattle.desk_model.specs.Listings.{Listing, alternatives_answer, cheapest_answer, term_cost}
use Rattle.desk_model.specs.declared.reading.Catalogue.{Catalogue}
use Rattle.desk_model.specs.declared.reading.Document.{Document}
use Rattle.desk_base.specs.declared.profile.Profile.{Profile}
use Rattle.desk_base.specs.declared.profile.Profile.TheVariants.{Capitals}
use Rattle.desk_model.specs.declared.reading.Conclusion.{Conclusion}
use Rattle.desk_model.specs.declared.reading.Rule.{Rule}
use Rattle.desk_model.specs.declared.refusal.Refusal.{Refusal}
use Rattle.desk_model.specs.declared.refusal.Refusal.TheVariants as why
use Rattle.std.specs.Str.{bytes_eq}
use Rattle.desk_model.specs.declared.row.DocumentRow.{DocumentRow}
use Rattle.desk_model.specs.declared.row.RuleRow.{RuleRow}
use Rattle.desk_model.specs.declared.row.PackageRow.{PackageRow}
use Rattle.desk_model.specs.declared.row.ReleaseRow.{ReleaseRow}
use Rattle.desk_model.specs.declared.row.FrozenRow.{FrozenRow}
use Rattle.desk_model.specs.declared.row.DutyRow.{DutyRow}
use Rattle.desk_model.specs.declared.row.ChangeRow.{ChangeRow}
use Rattle.desk_model.specs.declared.state.ReleaseState.{ReleaseState}
use Rattle.desk_model.specs.declared.state.ReleaseState.TheVariants as release
use Rattle.desk_model.specs.declared.state.DutyState.TheVariants as stands
use Rattle.desk_model.specs.declared.state.Word.TheVariants as word
use Rattle.desk_model.specs.declared.command.Answer.{Answer}
use Rattle.desk_model.specs.declared.command.Answer.TheVariants as answered
use Rattle.desk_model.specs.declared.command.Change.{Change}
use Rattle.desk_model.specs.declared.command.Change.TheVariants as change
use Rattle.desk_model.specs.declared.command.Command.{Command}
use Rattle.desk_model.specs.declared.command.Command.TheVariants.{LoadCatalogue, Import}
use Rattle.desk_model.specs.declared.command.Command.TheVariants.{OpenRelease, Attach, Choose}
use Rattle.desk_model.specs.declared.command.Command.TheVariants.{Unchoose, Freeze, Meet, Waive}
use Rattle.desk_model.specs.declared.command.Command.TheVariants.{Reopen, Withdraw, CloseDay}
use Rattle.desk_model.specs.declared.command.Command.TheVariants.{Conclude, Adopt}
use Rattle.desk_model.specs.declared.command.DutyLine.{DutyLine}
use Rattle.desk_model.specs.declared.command.OpenDuty.{OpenDuty}
use Rattle.desk_model.specs.declared.command.Query.{Query}
use Rattle.desk_model.specs.declared.command.Query.TheVariants as query

-- What is looked up

-- the row of a release, if it was opened
abbrev pub release_found : Tables → List ℕ → Option ReleaseRow
release_found t r = find (is_release r) t.releases

-- the state of a release, if it was opened
abbrev pub state_found : Tables → List ℕ → Option ReleaseState
state_found t r = option_map (λ row. row.state) (release_found t r)

-- the form of a release; empty if it wasn't opened, and no catalogue has an empty form
abbrev pub form_found : Tables → List ℕ → List ℕ
form_found t r = unwrap_or (option_map (λ row. row.form) (release_found t r)) []

-- a rule, without the revision that has it
abbrev pub rule_of : RuleRow → Rule
rule_of row = record { term = row.term; form = row.form; spelled = row.spelled; codes = row.codes }

-- the rules of the catalogue in force
abbrev pub rules_found : Tables → List Rule
rules_found t = map rule_of (filter (is_rule_of (length t.catalogue)) t.rule)

-- the conclusion in force for a package
abbrev pub conclusion_found : Readings → Tables → PackageRow → Option Conclusion
conclusion_found w t = conclusion_in w t.document t.conclusion

-- the first opened release that holds a choice for a package
abbrev pub holder_found : Tables → ℕ → List ℕ → Option (List ℕ)
holder_found t d p = holder t.releases t.choice d p

-- how many references of a document are adopted
abbrev pub adoption_count : Tables → ℕ → ℕ
adoption_count t d = length (filter (is_adoption_in d) t.adoption)

-- the terms chosen for a package of a document in a release, in their order
abbrev pub terms_found : Tables → List ℕ → ℕ → List ℕ → List (List ℕ)
terms_found t r d p = map (λ row. row.term) (filter (is_choice_of r d p) t.choice)

-- the same for the row of a package
abbrev pub choice_found : Tables → List ℕ → PackageRow → List (List ℕ)
choice_found t r p = terms_found t r p.document p.id

-- the packages that a release ships, by document and id
abbrev pub shipped_found : Tables → List ℕ → List PackageRow
shipped_found t r = shipped_of (attached_to t.attached r) t.packages

-- the duty with a number
abbrev pub duty_found : Tables → ℕ → Option DutyRow
duty_found t q = find (is_duty q) t.duty

-- how many changes a duty has
abbrev pub steps_found : Tables → ℕ → ℕ
steps_found t q = length (filter (is_change_of q) t.changes)

-- the state of a duty's release
abbrev pub release_state_found : Tables → Option DutyRow → ReleaseState
release_state_found t duty = option_map_or
    (λ row. unwrap_or (state_found t row.release) release.IsOpen) duty release.IsOpen

-- the last day of a duty's last change, if that is a waiver that ends
abbrev pub end_found : Tables → ℕ → Option (List ℕ)
end_found t q = option_and_then (λ change. change.last_day)
    (last_or None (filter (is_change_of q) t.changes))

-- the state of a duty, and how many changes it has
abbrev pub standing_found : Tables → DutyRow → Standing
standing_found t row = record {
  number = row.number;
  state = row.state;
  steps = steps_found t row.number;
}

-- the same for the duties of a release
abbrev pub standings_found : Tables → List ℕ → List Standing
standings_found t r = map (standing_found t) (filter (is_duty_of r) t.duty)

-- a duty is waived, and the waiver's last day is before this one
abbrev pub ends : Tables → List ℕ → DutyRow → Bool
ends t day row = has_ended day row.state (end_found t row.number)

-- the same for the duties whose waivers end
abbrev pub ended_found : Tables → List ℕ → List Standing
ended_found t day = map (standing_found t) (filter (ends t day) t.duty)

-- a withdrawal moves each duty of its release but those that are met
abbrev pub is_unmet : Standing → Bool
is_unmet s = not (is_met s.state)

-- what a freeze raises
abbrev pub owed_found : Readings → Tables → List ℕ → List Owed
owed_found w t r = owed_for w t.adoption (rules_found t) (form_found t r) r (choice_found t r)
    (shipped_found t r)

-- the terms that a freeze records
abbrev pub frozen_found : Readings → Tables → List ℕ → List FrozenRow
frozen_found w t r = frozen_for w t.adoption (rules_found t) (form_found t r) r (choice_found t r)
    (shipped_found t r)

-- a document was imported
abbrev pub stands_document : Tables → ℕ → Bool
stands_document t d = is_some (find (is_document d) t.document)

-- the package of a document with an id
abbrev pub package_found : Tables → ℕ → List ℕ → Option PackageRow
package_found t d p = find (is_package d p) t.packages

-- What each command looks up in tables

-- for LoadCatalogue: how many revisions there are
abbrev pub loading_found : Tables → Loading
loading_found t = record { revisions = length t.catalogue }

-- for Import: all documents, one of which may have the namespace
abbrev pub importing_found : Tables → Importing
importing_found t = record { documents = t.document }

-- for OpenRelease: the forms in force, whether some release has the name, and how many releases
-- there are
abbrev pub opening_found : Tables → List ℕ → Opening
opening_found t r = record {
  forms = t.forms;
  is_taken = is_some (release_found t r);
  releases = length t.releases;
}

-- for Attach: the release's state, the document, whether it is attached, and how many are
abbrev pub attaching_found : Tables → List ℕ → ℕ → Attaching
attaching_found t r d = record {
  state = state_found t r;
  has_document = stands_document t d;
  is_attached = list_any (is_attachment r d) t.attached;
  attached = length (attached_to t.attached r);
}

-- for Choose: the release's state, the document, the package and its conclusion in force, and
-- whether the document is attached
abbrev pub choosing_found : Readings → Tables → List ℕ → ℕ → List ℕ → Choosing
choosing_found w t r d p = record {
  state = state_found t r;
  has_document = stands_document t d;
  row = package_found t d p;
  is_attached = list_any (is_attachment r d) t.attached;
  conclusion = option_and_then (conclusion_found w t) (package_found t d p);
}

-- for Unchoose: the release's state, the document, the package, and the terms chosen for it
abbrev pub unchoosing_found : Tables → List ℕ → ℕ → List ℕ → Unchoosing
unchoosing_found t r d p = record {
  state = state_found t r;
  has_document = stands_document t d;
  has_package = is_some (package_found t d p);
  chosen = terms_found t r d p;
}

-- for Freeze: the release's state, what the walk refuses, and how many duties there are and would
-- come; no duty is ever removed, so their rows are counted
abbrev pub freezing_found : Readings → Tables → List ℕ → Freezing
freezing_found w t r = record {
  state = state_found t r;
  attached = length (attached_to t.attached r);
  fault = walk w t.adoption (rules_found t) (form_found t r) (conclusion_found w t)
      (choice_found t r) (shipped_found t r);
  raised = length t.duty;
  owed = length (owed_found w t r);
}

-- for Meet, Waive and Reopen: the duty's state, that of its release, and how many changes it has
abbrev pub moving_found : Tables → ℕ → Moving
moving_found t q = record {
  place = option_map (λ row. row.state) (duty_found t q);
  release = release_state_found t (duty_found t q);
  steps = steps_found t q;
}

-- the answer to a Meet, a Waive or a Reopen, whichever the word is
abbrev pub moved_found : Tables → Word → ℕ → List ℕ → List ℕ → Option (List ℕ) → Answer
moved_found t word q day text until = move_answer word day text until (moving_found t q)

-- for Conclude: why the text is no expression, the document, the package, and the release that
-- holds a choice for it
abbrev pub concluding_found : Readings → Tables → ℕ → List ℕ → List ℕ → Concluding
concluding_found w t d p text = record {
  fault = w.expression_fault Capitals text;
  has_document = stands_document t d;
  has_package = is_some (package_found t d p);
  holder = holder_found t d p;
}

-- for Adopt: whether the texts are a reference and a licence, the document, and what is adopted in
-- it already
abbrev pub adopting_found : Readings → Tables → ℕ → List ℕ → List ℕ → Adopting
adopting_found w t d reference licence =
    let row = adoption_row w d reference licence in
    record {
      is_reference = is_reference w reference;
      is_licence = is_plain w licence;
      has_document = stands_document t d;
      is_adopted = is_some (licence_for t.adoption d row.reference);
      adoptions = adoption_count t d;
    }

-- for Withdraw: the release's state
abbrev pub withdrawing_found : Tables → List ℕ → Withdrawing
withdrawing_found t r = record { state = state_found t r }

-- for CloseDay: how many waivers have a last day before that day
abbrev pub closing_found : Tables → List ℕ → Closing
closing_found t day = record { ended = length (ended_found t day) }

-- the answer
abbrev pub answer_from : Readings → Tables → Command → Answer
answer_from w t (LoadCatalogue text) = load_answer (w.catalogue text) (loading_found t)
answer_from w t (Import bytes profile) = import_answer (w.document bytes) bytes (importing_found t)
answer_from w t (OpenRelease r form) = open_answer r form (opening_found t r)
answer_from w t (Attach r d) = attach_answer (attaching_found t r d)
answer_from w t (Choose r d p texts) = choose_answer w texts (choosing_found w t r d p)
answer_from w t (Unchoose r d p) = unchoose_answer d p (unchoosing_found t r d p)
answer_from w t (Freeze r day) = freeze_answer day (freezing_found w t r)
answer_from w t (Conclude d p text) = conclude_answer (concluding_found w t d p text)
answer_from w t (Adopt d reference licence) = adopt_answer (adopting_found w t d reference licence)
answer_from w t (Meet q day text) = moved_found t word.Met q day text None
answer_from w t (Waive q day text until) = moved_found t word.Waived q day text until
answer_from w t (Reopen q day text) = moved_found t word.Reopened q day text None
answer_from w t (Withdraw r day text) = withdraw_answer day text (withdrawing_found t r)
answer_from w t (CloseDay day) = close_answer day (closing_found t day)

-- a duty as it is raised: open
abbrev pub new_duty : ℕ × Owed → DutyRow
new_duty d = duty_row stands.IsOpen d

-- the first change of a duty: raised on the day of the freeze, with no text
abbrev pub raised_row : List ℕ → DutyRow → ChangeRow
raised_row day row = record {
  duty = row.number;
  step = 1;
  day = day;
  word = word.Raised;
  body = [];
  last_day = None;
}

-- what a freeze raises, with the numbers that follow all duties so far
abbrev pub new_duties : Readings → Tables → List ℕ → List DutyRow
new_duties w t r = map new_duty (enumerate_from (length t.duty + 1) (owed_found w t r))

-- What a recorded command does to the rows

-- a new revision with its rules, and the forms that are in force from now on
abbrev pub loaded_change : Tables → List ℕ → Option Catalogue → Change
loaded_change t text catalogue =
    let n = length t.catalogue + 1 in
    change.Loaded (record { revision = n; body = text }) (map (rule_row n) (rules_in catalogue))
    (forms_in catalogue)

-- a document with this number, and the rows of its packages and references
abbrev pub imported_as : ℕ → List ℕ → Profile → Option Document → Change
imported_as n bytes profile document =
    change.Imported (record {
      number = n;
      namespace = namespace_in document;
      bytes = bytes;
      profile = profile;
    })
    (map (package_row n) (packages_in document)) (map (extracted_row n) (references_in document))

-- the same with the next number
abbrev pub imported_change : Tables → List ℕ → Profile → Option Document → Change
imported_change t bytes profile document = imported_as (length t.document + 1) bytes profile
    document

-- a new release, open, at the next place in the order of opening; revision 0 says that it isn't
-- frozen
abbrev pub opened_change : Tables → List ℕ → List ℕ → Change
opened_change t r form = change.Opened
    (record {
      name = r;
      place = length t.releases + 1;
      form = form;
      state = release.IsOpen;
      revision = 0;
    })

-- the terms that a package of a release has from now on; with none its choice is dropped
abbrev pub chosen_change : List ℕ → ℕ → List ℕ → List (List ℕ) → Change
chosen_change r d p terms = change.Chosen r d p (map (choice_row r d p) terms)

-- a freeze by a revision: the frozen terms, the duties, and their first changes
abbrev pub froze_rows : List ℕ → ℕ → List ℕ → List FrozenRow → List DutyRow → Change
froze_rows r revision day rows new = change.Froze r revision rows new (map (raised_row day) new)

-- the same by the revision in force
abbrev pub froze_change : Tables → List ℕ → List ℕ → List FrozenRow → List DutyRow → Change
froze_change t r day rows new = froze_rows r (length t.catalogue) day rows new

-- the same from what is owed, numbered on from all duties so far
abbrev pub froze_as : Tables → List ℕ → List ℕ → List FrozenRow → List Owed → Change
froze_as t r day rows owed = froze_change t r day rows
    (map new_duty (enumerate_from (length t.duty + 1) owed))

-- the rows of a freeze of a release with this form
abbrev pub freeze_change_found : Readings → Tables → List ℕ → List ℕ → List ℕ → Change
freeze_change_found w t r form day =
    froze_as t r day (frozen_for w t.adoption (rules_found t) form r (choice_found t r)
    (shipped_found t r)) (owed_for w t.adoption (rules_found t) form r (choice_found t r)
    (shipped_found t r))

-- one move of a duty
abbrev pub moved_change : Tables → ℕ → Move → Change
moved_change t q m = change.Moved (change_row q (steps_found t q + 1) m ∷ [])

-- the row of a duty's next move
abbrev pub next_row : Move → Standing → ChangeRow
next_row m s = change_row s.number (s.steps + 1) m

-- the changes by which a withdrawal moves the duties of its release that aren't met
abbrev pub withdrawn_rows : List ℕ → List ℕ → List Standing → List ChangeRow
withdrawn_rows day text all = map
    (next_row (record { day = day; word = word.Withdrawn; body = text; last_day = None }))
    (filter is_unmet all)

-- the changes by which waivers end: with no text, on the day that is closed
abbrev pub ended_rows : List ℕ → List Standing → List ChangeRow
ended_rows day all = map (next_row
    (record { day = day; word = word.Ended; body = []; last_day = None })) all

-- what each command changes, if it is recorded
abbrev pub change_for : Readings → Tables → Command → Change
change_for w t (LoadCatalogue text) = loaded_change t text (result_ok (w.catalogue text))
change_for w t (Import bytes profile) = imported_change t bytes profile
    (result_ok (w.document bytes))
change_for w t (OpenRelease r form) = opened_change t r form
change_for w t (Attach r d) = change.Attached (record { release = r; document = d })
change_for w t (Choose r d p texts) = chosen_change r d p (term_set w texts)
change_for w t (Freeze r day) = froze_change t r day (frozen_found w t r) (new_duties w t r)
change_for w t (Unchoose r d p) = chosen_change r d p []
change_for w t (Conclude d p text) = change.Concluded (conclusion_row d p text)
change_for w t (Adopt d reference licence) = change.Adopted (adoption_row w d reference licence)
change_for w t (Meet q day text) = moved_change t q
    (record { day = day; word = word.Met; body = text; last_day = None })
change_for w t (Waive q day text until) = moved_change t q
    (record { day = day; word = word.Waived; body = text; last_day = until })
change_for w t (Reopen q day text) = moved_change t q
    (record { day = day; word = word.Reopened; body = text; last_day = None })
change_for w t (Withdraw r day text) = change.Withdrew r
    (withdrawn_rows day text (standings_found t r))
change_for w t (CloseDay day) = change.Moved (ended_rows day (ended_found t day))

-- the rows after an answer
abbrev pub noted_by : Answer → Change → Tables → Tables
noted_by a c t = if is_recorded a then applied c t else t

-- the rows after a command
abbrev pub rows_noted : Readings → Tables → Command → Tables
rows_noted w t c = noted_by (answer_from w t c) (change_for w t c) t

-- What a store reports about an import with a namespace: its number, and whether its bytes are
-- these
abbrev pub known_import : List ℕ → DocumentRow → ℕ × Bool
known_import bytes row = (row.number, bytes_eq row.bytes bytes)

-- and about a document
abbrev pub known_document : DocumentRow → ℕ × Profile
known_document row = (row.number, row.profile)

-- the line of a duty
abbrev pub line_found : Tables → DutyRow → DutyLine
line_found t row = duty_line (λ q. filter (is_change_of q) t.changes) row

-- the duties that keep a release back, for a day if one is given
abbrev pub unready_found : Tables → List ℕ → Option (List ℕ) → List DutyRow
unready_found t r day = filter (λ row. keeps_back day row.state (end_found t row.number))
    (filter (is_duty_of r) t.duty)

-- the open duties of a release
abbrev pub open_found : Tables → ReleaseRow → List OpenDuty
open_found t row = open_duties (λ q. filter (is_change_of q) t.changes) t.duty row

-- the refusals for a package that a release with this form ships
abbrev pub refusals_found : Readings → Tables → List ℕ → List ℕ → PackageRow → List Refusal
refusals_found w t r form p = package_refusals w t.adoption (rules_found t) form
    (conclusion_found w t p) (choice_found t r p) p

-- what Wanting looks up in tables
abbrev pub obstacles_found : Readings → Tables → List ℕ → Obstacles
obstacles_found w t r = record {
  state = state_found t r;
  attached = length (attached_to t.attached r);
  refusals = shipped_refusals w t.adoption (rules_found t) (form_found t r) (conclusion_found w t)
      (choice_found t r) (shipped_found t r);
}

-- what Alternatives and Cheapest look up in tables
abbrev pub listing_found : Readings → Tables → ℕ → List ℕ → Listing
listing_found w t d p = record {
  has_document = stands_document t d;
  row = package_found t d p;
  conclusion = option_and_then (conclusion_found w t) (package_found t d p);
}

-- what the gaps of a release are looked up from
abbrev pub sources_found : Readings → Tables → ReleaseRow → Sources
sources_found w t row = record {
  terms = λ p. possible_terms w (conclusion_found w t p) (choice_found t row.name p);
  catalogue = revision_text t.catalogue (revision_for t.catalogue row);
  extracted = t.extracted;
  attached = attached_to t.attached row.name;
  shipped = shipped_found t row.name;
}

-- the answer to a query
abbrev pub queried_from : Readings → Tables → Query → Answer
queried_from w t (query.Duties r) =
    if is_some (release_found t r)
    then answered.Duties (map (line_found t) (filter (is_duty_of r) t.duty))
    else answered.Refused why.UnknownRelease
queried_from w t (query.Totals r) =
    if is_some (release_found t r) then answered.Totals (totals_of (filter (is_duty_of r) t.duty))
    else answered.Refused why.UnknownRelease
queried_from w t (query.Changes q) =
    if is_some (duty_found t q) then answered.Changes (filter (is_change_of q) t.changes)
    else answered.Refused why.UnknownDuty
queried_from w t (query.Findings d) = findings_answer w (find (is_document d) t.document)
queried_from w t (query.Release r) =
    option_map_or (λ row. answered.Release row
    (map (package_line (conclusion_found w t) (choice_found t r)) (shipped_found t r)))
    (release_found t r)
    (answered.Refused why.UnknownRelease)
queried_from w t (query.Alternatives d p) = alternatives_answer w (listing_found w t d p)
queried_from w t (query.Cheapest d p form) =
    cheapest_answer w (list_any (bytes_eq form) t.forms)
    (term_cost w t.adoption (rules_found t) form) (listing_found w t d p)
queried_from w t (query.Bill r) =
    option_map_or (λ row. bill_answer
    (bill_of w t.catalogue t.extracted t.frozen (shipped_found t r) row) row.state)
    (release_found t r)
    (answered.Refused why.UnknownRelease)
queried_from w t query.Releases = answered.Releases (map (release_line t.duty) t.releases)
queried_from w t query.Documents = answered.Documents (map (document_line t.packages) t.document)
queried_from w t query.OpenDuties = answered.OpenDuties (flat_map (open_found t) t.releases)
queried_from w t (query.Wanting r) = wanting_answer (obstacles_found w t r)
queried_from w t (query.Ready r day) = ready_answer day (state_found t r)
    (map (line_found t) (unready_found t r day))
queried_from w t (query.Gaps r) =
    option_map_or (λ row. gaps_answer (gaps_of w (sources_found w t row)) row.state)
    (release_found t r)
    (answered.Refused why.UnknownRelease)
