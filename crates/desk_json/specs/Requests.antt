-- The request that a JSON text (RFC 8259) is: an object with exactly the members of its form.
use Rattle.std.specs.Prelude.{ℕ, ◌==◌, List, codes, if◌then◌else◌, Option, None, Some, option_map, unwrap_or}
use Rattle.std.specs.Str.{bytes_eq, is_utf8}
use Rattle.serde_json.specs.Data.{Data}
use Rattle.serde_json.specs.Read.{read}
use Rattle.desk_json.specs.Fields.{size, text_in, number_in, profile_in, texts_in}
use Rattle.desk_model.specs.declared.command.Command.TheVariants as command
use Rattle.desk_model.specs.declared.command.Query.TheVariants as query
use Rattle.desk_base.specs.declared.profile.Profile.{Profile}
use Rattle.desk_base.specs.declared.profile.Profile.TheVariants.{Capitals}
use Rattle.desk_json.specs.declared.request.Request.{Request}
use Rattle.desk_json.specs.declared.request.Request.TheVariants.{Act, Ask, BadCommand}

-- a request from an object with this many members. Each key is in an object once, so if that many
-- keys are found in it, it has no others.
abbrev pub with_members : ℕ → Data → Request → Request
with_members n d request = if size d == n then request else BadCommand

-- a request that needs the text, the number or the texts of a member
abbrev pub with_text : List ℕ → Data → (List ℕ → Request) → Request
with_text key d request = unwrap_or (option_map request (text_in key d)) BadCommand

-- a request that needs the whole number of a member
abbrev pub with_number : List ℕ → Data → (ℕ → Request) → Request
with_number key d request = unwrap_or (option_map request (number_in key d)) BadCommand

-- a request that needs the texts of a member that is a list
abbrev pub with_texts : List ℕ → Data → (List (List ℕ) → Request) → Request
with_texts key d request = unwrap_or (option_map request (texts_in key d)) BadCommand

-- each form; the member that names it is one of its members
abbrev pub catalogue_request : Data → Request
catalogue_request d = with_members 2 d
    (with_text (codes "text") d (λ text. Act (command.LoadCatalogue text)))

-- the profile of an import: capitals if it has no member for it, or else the one whose number the
-- member is
abbrev pub import_profile : Data → Option Profile
import_profile d = if size d == 2 then Some Capitals else if size d == 3
    then profile_in (codes "profile") d else None

-- import, with `text` and perhaps `profile`
abbrev pub import_request : Data → Request
import_request d = unwrap_or (option_map (λ profile.
    with_text (codes "text") d (λ bytes. Act (command.Import bytes profile))) (import_profile d))
    BadCommand

-- open, with `release` and `form`
abbrev pub open_request : Data → Request
open_request d = with_members 3 d
    (with_text (codes "release") d (λ release.
    with_text (codes "form") d (λ form.
    Act (command.OpenRelease release form))))

-- attach, with `release` and `document`
abbrev pub attach_request : Data → Request
attach_request d = with_members 3 d
    (with_text (codes "release") d (λ release.
    with_number (codes "document") d (λ document.
    Act (command.Attach release document))))

-- choose, with `release`, `document`, `package` and `terms`
abbrev pub choose_request : Data → Request
choose_request d = with_members 5 d
    (with_text (codes "release") d (λ release.
    with_number (codes "document") d (λ document.
    with_text (codes "package") d (λ package_id.
    with_texts (codes "terms") d (λ terms.
    Act (command.Choose release document package_id terms))))))

-- freeze, with `release` and `day`
abbrev pub freeze_request : Data → Request
freeze_request d = with_members 3 d
    (with_text (codes "release") d (λ release.
    with_text (codes "day") d (λ day.
    Act (command.Freeze release day))))

-- meet, with `duty`, `day` and `text`
abbrev pub meet_request : Data → Request
meet_request d = with_members 4 d
    (with_number (codes "duty") d (λ duty.
    with_text (codes "day") d (λ day.
    with_text (codes "text") d (λ text.
    Act (command.Meet duty day text)))))

-- a waiver may have a member for its last day
abbrev pub waive_until : Data → Option (Option (List ℕ))
waive_until d = if size d == 4 then Some None else if size d == 5
    then option_map Some (text_in (codes "until") d) else None

-- waive, with `duty`, `day` and `text`, and perhaps `until`
abbrev pub waive_request : Data → Request
waive_request d = unwrap_or (option_map (λ until.
    with_number (codes "duty") d (λ duty.
    with_text (codes "day") d (λ day.
    with_text (codes "text") d (λ text.
    Act (command.Waive duty day text until))))) (waive_until d)) BadCommand

-- reopen, with `duty`, `day` and `text`
abbrev pub reopen_request : Data → Request
reopen_request d = with_members 4 d
    (with_number (codes "duty") d (λ duty.
    with_text (codes "day") d (λ day.
    with_text (codes "text") d (λ text.
    Act (command.Reopen duty day text)))))

-- unchoose, with `release`, `document` and `package`
abbrev pub unchoose_request : Data → Request
unchoose_request d = with_members 4 d
    (with_text (codes "release") d (λ release.
    with_number (codes "document") d (λ document.
    with_text (codes "package") d (λ package_id.
    Act (command.Unchoose release document package_id)))))

-- withdraw, with `release`, `day` and `text`
abbrev pub withdraw_request : Data → Request
withdraw_request d = with_members 4 d
    (with_text (codes "release") d (λ release.
    with_text (codes "day") d (λ day.
    with_text (codes "text") d (λ text.
    Act (command.Withdraw release day text)))))

-- close, the end of a day, with `day`
abbrev pub close_request : Data → Request
close_request d = with_members 2 d
    (with_text (codes "day") d (λ day. Act (command.CloseDay day)))

-- conclude, with `document`, `package` and `expression`
abbrev pub conclude_request : Data → Request
conclude_request d = with_members 4 d
    (with_number (codes "document") d (λ document.
    with_text (codes "package") d (λ package_id.
    with_text (codes "expression") d (λ expression.
    Act (command.Conclude document package_id expression)))))

-- adopt, with `document`, `reference` and `licence`
abbrev pub adopt_request : Data → Request
adopt_request d = with_members 4 d
    (with_number (codes "document") d (λ document.
    with_text (codes "reference") d (λ reference.
    with_text (codes "licence") d (λ licence.
    Act (command.Adopt document reference licence)))))

-- duties, with `release`
abbrev pub duties_request : Data → Request
duties_request d = with_members 2 d
    (with_text (codes "release") d (λ release. Ask (query.Duties release)))

-- totals, with `release`
abbrev pub totals_request : Data → Request
totals_request d = with_members 2 d
    (with_text (codes "release") d (λ release. Ask (query.Totals release)))

-- changes, with `duty`
abbrev pub changes_request : Data → Request
changes_request d = with_members 2 d
    (with_number (codes "duty") d (λ duty. Ask (query.Changes duty)))

-- findings, with `document`
abbrev pub findings_request : Data → Request
findings_request d = with_members 2 d
    (with_number (codes "document") d (λ document. Ask (query.Findings document)))

-- the form that a word of the ledger names as the value of `do`
abbrev pub ledger_request : List ℕ → Data → Request
ledger_request word d =
    if bytes_eq word (codes "meet") then meet_request d
    else if bytes_eq word (codes "waive") then waive_request d
    else if bytes_eq word (codes "reopen") then reopen_request d
    else if bytes_eq word (codes "withdraw") then withdraw_request d
    else if bytes_eq word (codes "close") then close_request d
    else BadCommand

-- the form that the value of `do` names
abbrev pub command_request : List ℕ → Data → Request
command_request word d =
    if bytes_eq word (codes "catalogue") then catalogue_request d
    else if bytes_eq word (codes "import") then import_request d
    else if bytes_eq word (codes "open") then open_request d
    else if bytes_eq word (codes "attach") then attach_request d
    else if bytes_eq word (codes "choose") then choose_request d
    else if bytes_eq word (codes "freeze") then freeze_request d
    else if bytes_eq word (codes "unchoose") then unchoose_request d
    else if bytes_eq word (codes "conclude") then conclude_request d
    else if bytes_eq word (codes "adopt") then adopt_request d
    else ledger_request word d

-- release, with `release`
abbrev pub release_request : Data → Request
release_request d = with_members 2 d
    (with_text (codes "release") d (λ release. Ask (query.Release release)))

-- alternatives, with `document` and `package`
abbrev pub alternatives_request : Data → Request
alternatives_request d = with_members 3 d
    (with_number (codes "document") d (λ document.
    with_text (codes "package") d (λ package_id.
    Ask (query.Alternatives document package_id))))

-- cheapest, with `document`, `package` and `form`
abbrev pub cheapest_request : Data → Request
cheapest_request d = with_members 4 d
    (with_number (codes "document") d (λ document.
    with_text (codes "package") d (λ package_id.
    with_text (codes "form") d (λ form.
    Ask (query.Cheapest document package_id form)))))

-- a query without other members
abbrev pub releases_request : Data → Request
releases_request d = with_members 1 d (Ask query.Releases)

-- all documents
abbrev pub documents_request : Data → Request
documents_request d = with_members 1 d (Ask query.Documents)

-- the open duties of all releases
abbrev pub open_duties_request : Data → Request
open_duties_request d = with_members 1 d (Ask query.OpenDuties)

-- what keeps a release from being frozen, with `release`
abbrev pub wanting_request : Data → Request
wanting_request d = with_members 2 d
    (with_text (codes "release") d (λ release. Ask (query.Wanting release)))

-- what is missing for the notices of a release, with `release`
abbrev pub gaps_request : Data → Request
gaps_request d = with_members 2 d
    (with_text (codes "release") d (λ release. Ask (query.Gaps release)))

-- a question about a ready release may have a member for a day
abbrev pub ready_day : Data → Option (Option (List ℕ))
ready_day d = if size d == 2 then Some None else if size d == 3
    then option_map Some (text_in (codes "day") d) else None

-- ready, with `release` and perhaps `day`
abbrev pub ready_request : Data → Request
ready_request d = unwrap_or (option_map (λ day.
    with_text (codes "release") d (λ release. Ask (query.Ready release day))) (ready_day d))
    BadCommand

-- the form that the value of `ask` names
abbrev pub query_request : List ℕ → Data → Request
query_request word d =
    if bytes_eq word (codes "duties") then duties_request d
    else if bytes_eq word (codes "totals") then totals_request d
    else if bytes_eq word (codes "changes") then changes_request d
    else if bytes_eq word (codes "findings") then findings_request d
    else if bytes_eq word (codes "release") then release_request d
    else if bytes_eq word (codes "alternatives") then alternatives_request d
    else if bytes_eq word (codes "cheapest") then cheapest_request d
    else if bytes_eq word (codes "releases") then releases_request d
    else if bytes_eq word (codes "documents") then documents_request d
    else if bytes_eq word (codes "open") then open_duties_request d
    else if bytes_eq word (codes "wanting") then wanting_request d
    else if bytes_eq word (codes "ready") then ready_request d
    else if bytes_eq word (codes "gaps") then gaps_request d
    else BadCommand

-- the request that a value is; an object with both `do` and `ask` has one member too many
abbrev pub request_of : Data → Request
request_of d = unwrap_or (option_map (λ word. command_request word d) (text_in (codes "do") d))
    (with_text (codes "ask") d (λ word. query_request word d))

-- the value whose JSON text the bytes are: UTF-8, and read by the grammar with nothing left
abbrev pub value_of : List ℕ → Option Data
value_of bytes = if is_utf8 bytes then read bytes else None

-- the request that bytes are
abbrev pub request_in : List ℕ → Request
request_in bytes = unwrap_or (option_map request_of (value_of bytes)) BadCommand
