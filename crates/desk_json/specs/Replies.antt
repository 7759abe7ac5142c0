-- The reply to an outcome: a JSON text (RFC 8259) without blanks, the members of each object in the
-- order of their keys.
use Rattle.std.specs.Prelude.{ℕ, Bool, true, false, List, [], ◌∷◌, codes, map}
use Rattle.serde_json.specs.Data.{Data, boolean, string, object, no_members, member}
use Rattle.serde_json.specs.Written.{compact_text}
use Rattle.desk_json.specs.Parts.{whole, list, duty_row, totals_row, change_line, finding_line}
use Rattle.desk_json.specs.Parts.{release_line, package_values, term_list, cheapest_rows}
use Rattle.desk_json.specs.Parts.{listed_release, listed_document, open_row, gap_row}
use Rattle.desk_json.specs.Refusals.{refusal_values}
use Rattle.desk_model.specs.Names.{refusal_name}
use Rattle.desk_model.specs.Numbers.{refusal_number}
use Rattle.desk_model.specs.declared.bill.Bill.{Bill}
use Rattle.desk_model.specs.declared.command.Answer.{Answer}
use Rattle.desk_model.specs.declared.command.Answer.TheVariants as answer
use Rattle.desk_model.specs.declared.command.Fault.{Fault}
use Rattle.desk_model.specs.declared.command.Fault.TheVariants as fault
use Rattle.desk_model.specs.declared.command.Outcome.{Outcome}
use Rattle.desk_model.specs.declared.command.Outcome.TheVariants as outcome
use Rattle.desk_model.specs.declared.refusal.Refusal.{Refusal}

-- a catalogue was loaded as this revision
abbrev pub revision_reply : ℕ → Data
revision_reply n = object (member (codes "revision") (whole n) no_members)

-- a document is new if this import stored it
abbrev pub document_reply : ℕ → Bool → Data
document_reply n new = object
    (member (codes "document") (whole n) (member (codes "new") (boolean new) no_members))

-- a command was carried out that has nothing to report
abbrev pub done_reply : Data
done_reply = object (member (codes "done") (boolean true) no_members)

-- how many duties a freeze raised, and the number of the first of them
abbrev pub frozen_reply : ℕ → ℕ → Data
frozen_reply first count = object
    (member (codes "count") (whole count) (member (codes "first") (whole first) no_members))

-- how many waivers ended
abbrev pub closed_reply : ℕ → Data
closed_reply count = object (member (codes "closed") (whole count) no_members)

-- the rows of a query's answer
abbrev pub rows_reply : List Data → Data
rows_reply rows = object (member (codes "rows") (list rows) no_members)

-- the bill itself is written as a text; this is its release
abbrev pub bill_reply : Bill → Data
bill_reply bill = object (member (codes "bill") (string bill.release) no_members)

-- the values of a refusal, its name and its number
abbrev pub refusal_reply : Refusal → Data
refusal_reply refusal = object
    (member (codes "at") (list (refusal_values refusal))
    (member (codes "name") (string (refusal_name refusal))
    (member (codes "refused") (whole (refusal_number refusal)) no_members)))

-- the reply to an answer, by what was answered
abbrev pub answer_reply : Answer → Data
answer_reply (answer.Revision n) = revision_reply n
answer_reply (answer.Imported n) = document_reply n true
answer_reply (answer.Again n) = document_reply n false
answer_reply answer.Done = done_reply
answer_reply (answer.Frozen first count) = frozen_reply first count
answer_reply (answer.Closed count) = closed_reply count
answer_reply (answer.Duties lines) = rows_reply (map duty_row lines)
answer_reply (answer.Totals totals) = rows_reply (totals_row totals ∷ [])
answer_reply (answer.Changes rows) = rows_reply (map change_line rows)
answer_reply (answer.Findings rows) = rows_reply (map finding_line rows)
answer_reply (answer.Release row lines) = rows_reply (release_line row ∷ map package_values lines)
answer_reply (answer.Alternatives sets) = rows_reply (map term_list sets)
answer_reply (answer.Cheapest found) = rows_reply (cheapest_rows found)
answer_reply (answer.Bill bill) = bill_reply bill
answer_reply (answer.Releases lines) = rows_reply (map listed_release lines)
answer_reply (answer.Documents lines) = rows_reply (map listed_document lines)
answer_reply (answer.OpenDuties lines) = rows_reply (map open_row lines)
answer_reply (answer.Wanting refusals) = rows_reply (map refusal_reply refusals)
answer_reply (answer.Gaps gaps) = rows_reply (map gap_row gaps)
answer_reply (answer.Refused refusal) = refusal_reply refusal

-- a fault, by its word
abbrev pub fault_reply : List ℕ → Data
fault_reply word = object (member (codes "fault") (string word) no_members)

-- memory ran out, or the store failed; the cause of the latter isn't shown
abbrev pub fault_word : Fault → List ℕ
fault_word fault.Memory = codes "memory"
fault_word (fault.Store cause) = codes "store"

-- the reply to an outcome: of an answer or of a fault
abbrev pub reply_of : Outcome → Data
reply_of (outcome.Answered answer) = answer_reply answer
reply_of (outcome.Failed fault) = fault_reply (fault_word fault)

-- the text of the reply
abbrev pub reply_text : Outcome → List ℕ
reply_text outcome = compact_text (reply_of outcome)

-- the text of the reply to anything that isn't a request
abbrev pub bad_command_text : List ℕ
bad_command_text = compact_text (fault_reply (codes "command"))
