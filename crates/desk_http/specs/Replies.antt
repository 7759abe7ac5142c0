-- The bytes of a reply (RFC 9112, section 4).
use Rattle.std.specs.Prelude.{◌≡◌, ℕ, ◌⊎◌, List, ◌++◌, length, codes, true, false}
use Rattle.std.specs.Fmt.{decimal}
use Rattle.desk_http_head.specs.Statuses.{status_line}
use Rattle.desk_http_head.specs.declared.status.Status.{Status}
use Rattle.desk_http_head.specs.declared.status.Status.TheVariants as status
use Rattle.desk_http.specs.OutcomeStatuses.{outcome_status}
use Rattle.desk_http.specs.declared.asking.Reply.{Reply}
use Rattle.desk_http.specs.declared.asking.Reply.TheVariants.{Became, Bad, NoRoute, BadCommand, NotText, Memory, Elsewhere}
use Rattle.desk_http.specs.declared.asking.Shape.{Shape}
use Rattle.desk_http.specs.declared.asking.Shape.TheVariants.{Json, Notices, Csv}
use Rattle.desk_http.specs.declared.replies.Message.{Message}
use Rattle.desk_http.specs.declared.replies.Message.TheVariants as message
use Rattle.desk_json.specs.Replies.{reply_text, bad_command_text, fault_reply}
use Rattle.desk_report.specs.CsvTable.{table_text}
use Rattle.desk_report.specs.Notices.{notices_text}
use Rattle.desk_model.specs.declared.command.Answer.TheVariants.{Bill, Duties, Refused}
use Rattle.desk_model.specs.declared.command.Fault.TheVariants as fault
use Rattle.desk_model.specs.declared.command.Outcome.{Outcome}
use Rattle.desk_model.specs.declared.command.Outcome.TheVariants.{Answered, Failed}
use Rattle.desk_model.specs.declared.refusal.CatalogueFault.TheVariants.{NotToml}
use Rattle.desk_model.specs.declared.refusal.Refusal.TheVariants.{BadCatalogue}
use Rattle.serde_json.specs.Written.{compact_text}

-- a media type (RFC 9110, section 8.3) and a body
abbrev pub Content : Type 0
Content = List ℕ × List ℕ

-- a body that is JSON (RFC 8259, section 11)
abbrev pub json : List ℕ → Content
json body = (codes "application/json", body)

-- a status, a media type and a body
abbrev pub Told : Type 0
Told = Status × Content

-- the lines before a body of this many bytes: each ends with CRLF, and the last one is empty
unfoldable pub head_bytes : Status → List ℕ → ℕ → List ℕ
head_bytes status media_type length =
    codes "HTTP/1.1 " ++ (status_line status
    ++ (codes "\r\nContent-Type: " ++ (media_type
    ++ (codes "\r\nContent-Length: " ++ (decimal length
    ++ codes "\r\nConnection: close\r\n\r\n")))))

-- the whole reply: its head, and the body right after the empty line
unfoldable pub reply_bytes : Told → List ℕ
reply_bytes (status, (media_type, body)) = head_bytes status media_type (length body) ++ body

-- How an outcome is written: notices or a table of duties if they are asked for, and anything else
-- as its line of JSON.
abbrev pub content_of : Outcome → Shape → Content
content_of (Answered (Bill bill)) Notices = (codes "text/plain; charset=utf-8", notices_text bill)
content_of (Answered (Duties lines)) Csv = (codes "text/csv; charset=utf-8", table_text lines)
content_of outcome shape = json (reply_text outcome)

-- the reply to an outcome: its status, and how it is written
abbrev pub told_of : Outcome → Shape → Told
told_of outcome shape = (outcome_status outcome, content_of outcome shape)

-- a catalogue that isn't UTF-8 isn't TOML
abbrev pub not_toml : Outcome
not_toml = Answered (Refused (BadCatalogue NotToml))

-- no memory was left for the request, which wasn't applied
abbrev pub no_memory : Told
no_memory = told_of (Failed fault.Memory) Json

-- no memory was left for the text of a reply
abbrev pub no_text : Told
no_text = (status.ServiceUnavailable, json (codes "{\"fault\":\"reply\"}"))

-- the store failed
abbrev pub no_store : Told
no_store = (status.InternalServerError, json (compact_text (fault_reply (codes "store"))))

-- a browser made the request for a page of elsewhere
abbrev pub from_elsewhere : Told
from_elsewhere = (status.Forbidden, json (codes "{\"fault\":\"origin\"}"))

-- What is written for a reply. A failure of the desk has a reply that needs no memory. If none is
-- left for the text of another, then `no_memory` after a GET or if the desk wasn't asked, and else
-- `no_text`, because its command may have been applied.
abbrev pub IsTold : Reply → Told → Type 0
IsTold (Became (Failed f) shape get) told = told ≡ told_of (Failed f) Json
IsTold (Became (Answered answer) shape true) told = (told ≡ told_of (Answered answer) shape)
    ⊎ (told ≡ no_memory)
IsTold (Became (Answered answer) shape false) told = (told ≡ told_of (Answered answer) shape)
    ⊎ (told ≡ no_text)
IsTold (Bad status) told = (told ≡ (status, json (codes "{\"fault\":\"request\"}")))
    ⊎ (told ≡ no_memory)
IsTold NoRoute told = (told ≡ (status.NotFound, json (codes "{\"fault\":\"route\"}")))
    ⊎ (told ≡ no_memory)
IsTold BadCommand told = (told ≡ (status.BadRequest, json bad_command_text)) ⊎ (told ≡ no_memory)
IsTold NotText told = (told ≡ told_of not_toml Json) ⊎ (told ≡ no_memory)
IsTold Memory told = told ≡ no_memory
IsTold Elsewhere told = told ≡ from_elsewhere

-- the message for this reply
abbrev pub IsMessage : Told → Message → Type 0
IsMessage told (message.Made status front rest) = (told.0 ≡ status)
    × (front.items ++ rest.items ≡ reply_bytes told)
IsMessage told message.NoMemory = told ≡ no_memory
IsMessage told message.NoText = told ≡ no_text
IsMessage told message.NoStore = told ≡ no_store
IsMessage told message.FromElsewhere = told ≡ from_elsewhere
