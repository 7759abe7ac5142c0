-- The answer to each query.
use Rattle.std.specs.Prelude.{ℕ, ◌&&◌, Bool, List, [], ◌∷◌, length, filter, map, find, count_by}
use Rattle.std.specs.Prelude.{Option, Some, None, is_some, if◌then◌else◌}
use Rattle.desk_model.specs.Readings.{Readings}
use Rattle.std.specs.List.{flat_map, list_any}
use Rattle.std.specs.Str.{bytes_eq}
use Rattle.desk_model.specs.Keys.{is_document, is_duty_of, is_shipped_by}
use Rattle.desk_model.specs.History.{attached, attached_to, documents, form_of, forms_in, in_force, packages, rules_in, state_of}
use Rattle.desk_model.specs.Conclusions.{adoptions}
use Rattle.desk_model.specs.Bills.{bill_answer, bill_of, revision_text}
use Rattle.desk_model.specs.Findings.{findings_answer}
use Rattle.desk_model.specs.Gaps.{Sources, gaps_answer, gaps_of, possible_terms, revision_for}
use Rattle.desk_model.specs.Listings.{Listing, alternatives_answer, cheapest_answer, term_cost}
use Rattle.desk_model.specs.Obstacles.{obstacles, wanting_answer}
use Rattle.desk_model.specs.Moves.{changes, duties, end_after, moves}
use Rattle.desk_model.specs.Ready.{keeps_back, ready_answer}
use Rattle.desk_model.specs.States.{is_open, is_met, is_waived, is_withdrawn}
use Rattle.desk_model.specs.Moves.{duty_at}
use Rattle.desk_model.specs.declared.refusal.Refusal.TheVariants as why
use Rattle.std.specs.Option.{option_map, option_and_then}
use Rattle.desk_model.specs.Raised.{chosen_in, shipped}
use Rattle.desk_model.specs.Tables.{release_row, release_rows, tables}
use Rattle.desk_model.specs.Answers.{conclusion, has_document, package_at, release_state}
use Rattle.desk_model.specs.declared.reading.Conclusion.{Conclusion}
use Rattle.desk_model.specs.declared.row.PackageRow.{PackageRow}
use Rattle.desk_model.specs.declared.row.DocumentHead.{DocumentHead}
use Rattle.desk_model.specs.declared.row.DocumentRow.{DocumentRow}
use Rattle.desk_model.specs.declared.row.DutyRow.{DutyRow}
use Rattle.desk_model.specs.declared.row.ChangeRow.{ChangeRow}
use Rattle.desk_model.specs.declared.row.ReleaseRow.{ReleaseRow}
use Rattle.desk_model.specs.declared.command.DocumentLine.{DocumentLine}
use Rattle.desk_model.specs.declared.command.DutyLine.{DutyLine}
use Rattle.desk_model.specs.declared.command.OpenDuty.{OpenDuty}
use Rattle.desk_model.specs.declared.command.PackageLine.{PackageLine}
use Rattle.desk_model.specs.declared.command.ReleaseLine.{ReleaseLine}
use Rattle.desk_model.specs.declared.command.Totals.{Totals}
use Rattle.desk_model.specs.declared.command.Answer.{Answer}
use Rattle.desk_model.specs.declared.command.Answer.TheVariants as answered
use Rattle.desk_model.specs.declared.command.Query.{Query}
use Rattle.desk_model.specs.declared.command.Query.TheVariants as query
use Rattle.desk_model.specs.declared.command.Command.{Command}

-- how many duties there are, and how many of them are in each state
abbrev pub totals_of : List DutyRow → Totals
totals_of rows = record {
  raised = length rows;
  still_open = count_by (λ row. is_open row.state) rows;
  met = count_by (λ row. is_met row.state) rows;
  waived = count_by (λ row. is_waived row.state) rows;
  withdrawn = count_by (λ row. is_withdrawn row.state) rows;
}

-- the day of the last change
abbrev pub last_day : List ChangeRow → Option (List ℕ)
last_day [] = None
last_day (row ∷ []) = Some row.day
last_day (row ∷ next ∷ rows) = last_day (next ∷ rows)

-- the line of a duty, with the day of its last change
abbrev pub duty_line : (ℕ → List ChangeRow) → DutyRow → DutyLine
duty_line changed row = record {
  number = row.number;
  document = row.document;
  package_id = row.package_id;
  term = row.term;
  rule = row.rule;
  code = row.code;
  state = row.state;
  day = last_day (changed row.number);
}

-- the duties of a release, by number
abbrev pub duties_of : Readings → List Command → List ℕ → List DutyRow
duties_of w h r = filter (is_duty_of r) (duties w h)

-- those that keep it back, for a day if one is given
abbrev pub unready_duties : Readings → List Command → List ℕ → Option (List ℕ) → List DutyRow
unready_duties w h r day = filter
    (λ row. keeps_back day row.state (end_after (moves w h row.number))) (duties_of w h r)

-- the line of a package, from its conclusion in force and what is chosen for it
abbrev pub package_line : (PackageRow → Option Conclusion) → (PackageRow → List (List ℕ))
    → PackageRow → PackageLine
package_line concluded chosen p = record {
  document = p.document;
  package_id = p.id;
  name = p.name;
  conclusion = option_map (λ c. c.text) (concluded p);
  terms = chosen p;
}

-- the line of a release, from all duties
abbrev pub release_line : List DutyRow → ReleaseRow → ReleaseLine
release_line rows release = record {
  release = release;
  totals = totals_of (filter (is_duty_of release.name) rows);
}

-- a document without its bytes
abbrev pub head_of : DocumentRow → DocumentHead
head_of row = record { number = row.number; namespace = row.namespace; profile = row.profile }

-- the line of a document, from all packages
abbrev pub document_line : List PackageRow → DocumentRow → DocumentLine
document_line rows document = record {
  head = head_of document;
  shipped = length (filter (is_shipped_by document.number) rows);
}

-- a duty was raised for a release, and is open
abbrev pub is_open_of : List ℕ → DutyRow → Bool
is_open_of r row = is_duty_of r row && is_open row.state

-- an open duty, with the day of its last change: the day since which it is open
abbrev pub open_duty : (ℕ → List ChangeRow) → DutyRow → OpenDuty
open_duty changed row = record { duty = row; day = last_day (changed row.number) }

-- the open duties of a release, by number
abbrev pub open_duties : (ℕ → List ChangeRow) → List DutyRow → ReleaseRow → List OpenDuty
open_duties changed rows release = map (open_duty changed) (filter (is_open_of release.name) rows)

-- what Alternatives and Cheapest look up in a history
abbrev pub listing : Readings → List Command → ℕ → List ℕ → Listing
listing w h d p = record {
  has_document = has_document w h d;
  row = package_at w h d p;
  conclusion = option_and_then (conclusion w h) (package_at w h d p);
}

-- what the gaps of a release are looked up from, with the terms chosen for its packages
abbrev pub sources : Readings → List Command → (PackageRow → List (List ℕ)) → ReleaseRow → Sources
sources w h chosen row =
    let t = tables w h in
    record {
      terms = λ p. possible_terms w (conclusion w h p) (chosen p);
      catalogue = revision_text t.catalogue (revision_for t.catalogue row);
      extracted = t.extracted;
      attached = attached_to (attached h) row.name;
      shipped = shipped w h row.name;
    }

-- the answer to a query after a history; no query changes anything
abbrev pub queried : Readings → List Command → Query → Answer
queried w h (query.Duties r) =
    if is_some (form_of h r) then answered.Duties (map (duty_line (changes w h)) (duties_of w h r))
    else answered.Refused why.UnknownRelease
queried w h (query.Totals r) =
    if is_some (form_of h r) then answered.Totals (totals_of (duties_of w h r))
    else answered.Refused why.UnknownRelease
queried w h (query.Changes q) =
    if is_some (duty_at w h q) then answered.Changes (changes w h q)
    else answered.Refused why.UnknownDuty
queried w h (query.Findings d) = findings_answer w (find (is_document d) (documents w h))
queried w h (query.Release r) =
    if is_some (form_of h r) then answered.Release (release_row h r)
    (map (package_line (conclusion w h) (chosen_in w h r)) (shipped w h r))
    else answered.Refused why.UnknownRelease
queried w h (query.Alternatives d p) = alternatives_answer w (listing w h d p)
queried w h (query.Cheapest d p form) =
    cheapest_answer w (list_any (bytes_eq form) (forms_in (in_force w h)))
    (term_cost w (adoptions w h) (rules_in (in_force w h)) form) (listing w h d p)
queried w h (query.Bill r) =
    let t = tables w h in
    if is_some (form_of h r) then bill_answer
    (bill_of w t.catalogue t.extracted t.frozen (shipped w h r) (release_row h r)) (state_of h r)
    else answered.Refused why.UnknownRelease
queried w h query.Releases = answered.Releases (map (release_line (duties w h)) (release_rows h))
queried w h query.Documents = answered.Documents
    (map (document_line (packages w h)) (documents w h))
queried w h query.OpenDuties = answered.OpenDuties
    (flat_map (open_duties (changes w h) (duties w h)) (release_rows h))
queried w h (query.Wanting r) = wanting_answer (obstacles w h r)
queried w h (query.Ready r day) = ready_answer day (release_state h r)
    (map (duty_line (changes w h)) (unready_duties w h r day))
queried w h (query.Gaps r) =
    if is_some (form_of h r) then gaps_answer
    (gaps_of w (sources w h (chosen_in w h r) (release_row h r))) (state_of h r)
    else answered.Refused why.UnknownRelease
