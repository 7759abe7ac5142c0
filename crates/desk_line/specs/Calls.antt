-- The call that the words of a command line hold.
use Rattle.std.specs.Prelude.{ℕ, ◌≡◌, ◌≢◌, ◌-◌, Bool, true, false, [], ◌∷◌, List, codes}
use Rattle.std.specs.Prelude.{if◌then◌else◌, Option, None, Some, option_map, option_and_then}
use Rattle.std.specs.Prelude.{is_some, ◌||◌, unwrap_or}
use Rattle.std.specs.Str.{bytes_eq}
use Rattle.clap.specs.Words.{IsAmong, Kinds, Row, Text, all_of, fault_of, first_of, kind_of, one_of, subcommand_of}
use Rattle.clap.specs.Kinds.{or_else}
use Rattle.desk_base.specs.Profiles.{profile_numbered}
use Rattle.desk_base.specs.Day.{is_day}
use Rattle.desk_base.specs.declared.profile.Profile.{Profile}
use Rattle.desk_base.specs.declared.profile.Profile.TheVariants.{Capitals}
use Rattle.clap.specs.declared.error.kind.ErrorKind.TheVariants.{InvalidValue, MissingSubcommand, OutOfMemory}
use Rattle.clap.specs.declared.error.Error.{Error}
use Rattle.desk_line.specs.Fields.{if_stands}
use Rattle.desk_line.specs.Numbers.{number_written}
use Rattle.desk_line.specs.Words.{desk_app}
use Rattle.desk_line.specs.declared.call.Call.{Call}
use Rattle.desk_line.specs.declared.call.Call.TheVariants.{Check, Alternatives, Script, File}
use Rattle.desk_line.specs.declared.call.Call.TheVariants.{Gather, Lint, Convert, Texts, Credits, Explain, Propose}
use Rattle.desk_line.specs.declared.call.FileCall.TheVariants.{Import, Catalogue, Notices, Duties}
use Rattle.desk_line.specs.declared.call.FileCall.TheVariants.{Totals, Changes, Gaps, Page, Ready, Wanting}
use Rattle.desk_line.specs.declared.call.FileCall.TheVariants.{Choices, Audit, Migrate, Serve}
use Rattle.desk_line.specs.declared.call.FileCall.TheVariants as file
use Rattle.desk_line.specs.declared.call.Listed.{Listed}
use Rattle.desk_line.specs.declared.call.Package.{Package}
use Rattle.desk_line.specs.declared.call.Listed.TheVariants as listed
use Rattle.desk_line.specs.declared.lists.Filter.{Filter}
use Rattle.desk_line.specs.declared.subcommands.Kind.{Kind}
use Rattle.desk_line.specs.declared.subcommands.Kind.TheVariants as kind
use Rattle.desk_line.specs.declared.reports.Release.{Release}
use Rattle.desk_line.specs.declared.call.LineFault.{LineFault}
use Rattle.desk_line.specs.declared.call.LineFault.TheVariants.{Memory, Usage}

-- the profile whose number a word is, one digit
abbrev pub profile_written : Text → Option Profile
profile_written (digit ∷ []) = profile_numbered (digit - 48)
profile_written _ = None

-- the profile among these values; nothing if the word names none
abbrev pub profile_in : List Row → Option Profile
profile_in rows = option_and_then profile_written (first_of (codes "PROFILE") rows)

-- the call of `check` with these values
abbrev pub check_in : List Row → Option Call
check_in rows = option_and_then
    (λ expression. option_and_then (λ terms. option_map (λ profile. Check expression profile terms)
    (profile_in rows)) (all_of (codes "TERM") rows)) (first_of (codes "EXPR") rows)

-- the call of `alternatives` with these values
abbrev pub alternatives_in : List Row → Option Call
alternatives_in rows = option_and_then
    (λ expression. option_map (λ profile. Alternatives expression profile) (profile_in rows))
    (first_of (codes "EXPR") rows)

-- whether a flag is used; `clap` writes this as a value
abbrev pub is_true : Option Text → Bool
is_true None = false
is_true (Some value) = bytes_eq value (codes "true")

-- whether `--explain` is used
abbrev pub is_explained : List Row → Bool
is_explained rows = is_true (first_of (codes "EXPLAIN") rows)

-- whether `--no-files` is used
abbrev pub is_without_files : List Row → Bool
is_without_files rows = is_true (first_of (codes "NOFILES") rows)

-- the call of `script` with these values
abbrev pub script_in : List Row → Call
script_in rows = Script (first_of (codes "FILE") rows) (is_explained rows)
    (is_true (first_of (codes "STOP") rows))

-- whether `--json` is used
abbrev pub is_json : List Row → Bool
is_json rows = is_true (first_of (codes "JSON") rows)

-- the calls of `do` and `ask` with these values
abbrev pub do_in : List Row → Option Call
do_in rows = option_and_then
    (λ database. option_map (λ words. File database (file.Do words (is_json rows)))
    (all_of (codes "WORD") rows)) (first_of (codes "FILE") rows)

-- for `ask` the words are a question
abbrev pub ask_in : List Row → Option Call
ask_in rows = option_and_then
    (λ database. option_map (λ words. File database (file.Ask words (is_json rows)))
    (all_of (codes "WORD") rows)) (first_of (codes "FILE") rows)

-- the call of `import` with these values
abbrev pub import_in : List Row → Option Call
import_in rows = option_and_then
    (λ database. option_and_then (λ document. option_map
    (λ profile. File database (Import document profile (is_without_files rows) (is_explained rows)))
    (profile_in rows)) (first_of (codes "DOC") rows)) (first_of (codes "FILE") rows)

-- the call of `catalogue` with these values
abbrev pub catalogue_in : List Row → Option Call
catalogue_in rows = option_and_then
    (λ database. option_map (λ catalogue. File database (Catalogue catalogue))
    (first_of (codes "TOML") rows)) (first_of (codes "FILE") rows)

-- a value that can be written in a field
abbrev pub field_in : Text → List Row → Option Text
field_in id rows = option_and_then if_stands (first_of id rows)

-- the call of `gather` with these values
abbrev pub gather_in : List Row → Option Call
gather_in rows = option_and_then
    (λ folder. option_and_then (λ name. option_and_then
    (λ namespace. option_map (λ created. Gather folder name namespace created)
    (field_in (codes "CREATED") rows)) (field_in (codes "NAMESPACE") rows))
    (field_in (codes "NAME") rows)) (first_of (codes "DIR") rows)

-- the call of `lint` with these values
abbrev pub lint_in : List Row → Option Call
lint_in rows = option_map (λ folder. Lint folder (is_json rows))
    (first_of (codes "DIR") rows)

-- the number that a value is, as `clap` reads it, if it has at most this many bits
abbrev pub number_in : ℕ → Text → List Row → Option ℕ
number_in bits id rows = option_and_then (number_written bits) (one_of id rows)

-- the call of `serve` with these values
abbrev pub serve_in : List Row → Option Call
serve_in rows = option_and_then
    (λ database. option_and_then (λ port. option_map (λ limit. File database (Serve port limit))
    (number_in 32 (codes "N") rows)) (number_in 16 (codes "PORT") rows))
    (first_of (codes "FILE") rows)

-- the file that keeps the desk, and the release
abbrev pub release_in : List Row → Option Release
release_in rows = option_and_then
    (λ database. option_map (λ release. let found : Release =
    record { database = database; release = release } in found)
    (first_of (codes "RELEASE") rows)) (first_of (codes "FILE") rows)

-- the values of an argument, none if it isn't used
abbrev pub all_or_none : Text → List Row → List Text
all_or_none id rows = unwrap_or (all_of id rows) []

-- the calls of the subcommands that write a text about a release
abbrev pub notices_in : List Row → Option Call
notices_in rows = option_map (λ found. File found.database
    (Notices found.release (all_or_none (codes "EXTRA") rows)
    (is_true (first_of (codes "COMPLETE") rows)) (is_explained rows))) (release_in rows)

-- the call of `duties`
abbrev pub duties_in : List Row → Option Call
duties_in rows = option_map (λ found. File found.database (Duties found.release)) (release_in rows)

-- the call of `totals`
abbrev pub totals_in : List Row → Option Call
totals_in rows = option_map (λ found. File found.database (Totals found.release)) (release_in rows)

-- the call of `changes` with these values
abbrev pub changes_in : List Row → Option Call
changes_in rows = option_and_then (λ database. option_map (λ duty. File database (Changes duty))
    (number_in 32 (codes "DUTY") rows)) (first_of (codes "FILE") rows)

-- the call of `audit` with these values
abbrev pub audit_in : List Row → Option Call
audit_in rows = option_map (λ database. File database Audit) (first_of (codes "FILE") rows)

-- the call of `migrate` with these values
abbrev pub migrate_in : List Row → Option Call
migrate_in rows = option_map (λ database. File database Migrate) (first_of (codes "FILE") rows)

-- the call of `backup` with these values
abbrev pub backup_in : List Row → Option Call
backup_in rows = option_and_then
    (λ database. option_map (λ copy. File database (file.Backup copy)) (first_of (codes "TO") rows))
    (first_of (codes "FILE") rows)

-- the call of `explain` with these values
abbrev pub explain_in : List Row → Option Call
explain_in rows = option_map Explain (first_of (codes "NAME") rows)

-- the profile whose number a word is, or capitals if there is no word
abbrev pub profile_if_given : Option Text → Option Profile
profile_if_given None = Some Capitals
profile_if_given (Some value) = profile_written value

-- the proposals for a document in a file of its own
abbrev pub filed_proposals_in : List Row → Option Call
filed_proposals_in rows = option_and_then
    (λ document. option_and_then (λ number. option_map
    (λ profile. Propose document number profile (is_explained rows))
    (profile_if_given (first_of (codes "PROFILE") rows))) (number_in 32 (codes "N") rows))
    (first_of (codes "DOC") rows)

-- a number or a profile is given; only a document in a file of its own needs them
abbrev pub has_reading : List Row → Bool
has_reading rows = is_some (number_in 32 (codes "N") rows)
    || is_some (first_of (codes "PROFILE") rows)

-- the proposals for a document that a desk holds: the word is its number
abbrev pub held_proposals_in : Text → List Row → Option Call
held_proposals_in database rows =
    if has_reading rows then None
    else option_map (λ document. File database (file.Proposals document (is_explained rows)))
    (option_and_then (number_written 32) (first_of (codes "DOC") rows))

-- with a file, the word is the number of its document; without one, a path
abbrev pub proposals_by : Option Text → List Row → Option Call
proposals_by None rows = filed_proposals_in rows
proposals_by (Some database) rows = held_proposals_in database rows

-- the call of `propose` with these values
abbrev pub propose_in : List Row → Option Call
propose_in rows = proposals_by (first_of (codes "FILE") rows) rows

-- the calls of the subcommands that prepare a freeze
abbrev pub choices_in : List Row → Option Call
choices_in rows = option_map (λ found. File found.database (Choices found.release))
    (release_in rows)

-- the call of `wanting`
abbrev pub wanting_in : List Row → Option Call
wanting_in rows = option_map
    (λ found. File found.database (Wanting found.release (is_explained rows))) (release_in rows)

-- the call of `ready` with these values
abbrev pub ready_in : List Row → Option Call
ready_in rows = option_map
    (λ found. File found.database (Ready found.release (first_of (codes "DAY") rows)))
    (release_in rows)

-- the call of `gaps`
abbrev pub gaps_in : List Row → Option Call
gaps_in rows = option_map (λ found. File found.database (Gaps found.release)) (release_in rows)

-- which duties are listed
abbrev pub filter_in : List Row → Filter
filter_in rows = record {
  release = first_of (codes "RELEASE") rows;
  code = first_of (codes "CODE") rows;
  is_open = is_true (first_of (codes "OPEN") rows);
  past = first_of (codes "DAY") rows;
}

-- some filter is given
abbrev pub has_filter : Filter → Bool
has_filter filter = is_some filter.release
    || (is_some filter.code || (filter.is_open || is_some filter.past))

-- a day, if anything is given
abbrev pub is_day_if_given : Option Text → Bool
is_day_if_given None = true
is_day_if_given (Some value) = is_day value

-- what a word says is to be listed; filters are for duties alone
abbrev pub listed_as : Text → Filter → Option Listed
listed_as what filter =
    if bytes_eq what (codes "duties")
    then Some (listed.Duties filter.release filter.code filter.is_open filter.past)
    else if has_filter filter then None
    else if bytes_eq what (codes "releases") then Some listed.Releases
    else if bytes_eq what (codes "documents") then Some listed.Documents
    else None

-- what is to be listed; nothing if the word isn't known, or the day that is given doesn't exist
abbrev pub listed_in : List Row → Option Listed
listed_in rows =
    if is_day_if_given (first_of (codes "DAY") rows)
    then option_and_then (λ what. listed_as what (filter_in rows)) (first_of (codes "WHAT") rows)
    else None

-- the call of `list` with these values
abbrev pub list_in : List Row → Option Call
list_in rows = option_and_then
    (λ list. option_map (λ database. File database (file.List list)) (first_of (codes "FILE") rows))
    (listed_in rows)

-- the call of `page` with these values
abbrev pub page_in : List Row → Option Call
page_in rows = option_map (λ found. File found.database (Page found.release)) (release_in rows)

-- the call of `convert` with these values
abbrev pub convert_in : List Row → Option Call
convert_in rows = option_map (λ document. Convert document (is_without_files rows))
    (first_of (codes "JSON") rows)

-- the call of `texts` with these values
abbrev pub texts_in : List Row → Option Call
texts_in rows = option_map Texts (first_of (codes "DIR") rows)

-- the package that a credit is for
abbrev pub package_in : List Row → Option Package
package_in rows = option_map (λ name. let found : Package =
    record { name = name; version = first_of (codes "VERSION") rows } in found)
    (first_of (codes "NAME") rows)

-- the call of `credits` with these values
abbrev pub credits_in : List Row → Option Call
credits_in rows = option_and_then (λ folder. option_map (Credits folder) (package_in rows))
    (first_of (codes "DIR") rows)

-- which subcommand has a name
abbrev pub kind_at : Text → Option Kind
kind_at name =
    if bytes_eq name (codes "check") then Some kind.Check
    else if bytes_eq name (codes "alternatives") then Some kind.Alternatives
    else if bytes_eq name (codes "script") then Some kind.Script
    else if bytes_eq name (codes "do") then Some kind.Do
    else if bytes_eq name (codes "ask") then Some kind.Ask
    else if bytes_eq name (codes "import") then Some kind.Import
    else if bytes_eq name (codes "catalogue") then Some kind.Catalogue
    else if bytes_eq name (codes "notices") then Some kind.Notices
    else if bytes_eq name (codes "duties") then Some kind.Duties
    else if bytes_eq name (codes "totals") then Some kind.Totals
    else if bytes_eq name (codes "changes") then Some kind.Changes
    else if bytes_eq name (codes "audit") then Some kind.Audit
    else if bytes_eq name (codes "migrate") then Some kind.Migrate
    else if bytes_eq name (codes "backup") then Some kind.Backup
    else if bytes_eq name (codes "gather") then Some kind.Gather
    else if bytes_eq name (codes "lint") then Some kind.Lint
    else if bytes_eq name (codes "serve") then Some kind.Serve
    else if bytes_eq name (codes "explain") then Some kind.Explain
    else if bytes_eq name (codes "propose") then Some kind.Propose
    else if bytes_eq name (codes "choices") then Some kind.Choices
    else if bytes_eq name (codes "wanting") then Some kind.Wanting
    else if bytes_eq name (codes "ready") then Some kind.Ready
    else if bytes_eq name (codes "gaps") then Some kind.Gaps
    else if bytes_eq name (codes "list") then Some kind.List
    else if bytes_eq name (codes "page") then Some kind.Page
    else if bytes_eq name (codes "convert") then Some kind.Convert
    else if bytes_eq name (codes "texts") then Some kind.Texts
    else if bytes_eq name (codes "credits") then Some kind.Credits
    else None

-- the call of a subcommand with these values
abbrev pub call_by : Kind → List Row → Option Call
call_by kind.Check rows = check_in rows
call_by kind.Alternatives rows = alternatives_in rows
call_by kind.Script rows = Some (script_in rows)
call_by kind.Do rows = do_in rows
call_by kind.Ask rows = ask_in rows
call_by kind.Import rows = import_in rows
call_by kind.Catalogue rows = catalogue_in rows
call_by kind.Notices rows = notices_in rows
call_by kind.Duties rows = duties_in rows
call_by kind.Totals rows = totals_in rows
call_by kind.Changes rows = changes_in rows
call_by kind.Audit rows = audit_in rows
call_by kind.Migrate rows = migrate_in rows
call_by kind.Backup rows = backup_in rows
call_by kind.Gather rows = gather_in rows
call_by kind.Lint rows = lint_in rows
call_by kind.Serve rows = serve_in rows
call_by kind.Explain rows = explain_in rows
call_by kind.Propose rows = propose_in rows
call_by kind.Choices rows = choices_in rows
call_by kind.Wanting rows = wanting_in rows
call_by kind.Ready rows = ready_in rows
call_by kind.Gaps rows = gaps_in rows
call_by kind.List rows = list_in rows
call_by kind.Page rows = page_in rows
call_by kind.Convert rows = convert_in rows
call_by kind.Texts rows = texts_in rows
call_by kind.Credits rows = credits_in rows

-- the call of the subcommand with this name, if there is one
abbrev pub call_in : Text → List Row → Option Call
call_in name rows = option_and_then (λ kind. call_by kind rows) (kind_at name)

-- the call of the subcommand that was found, if any
abbrev pub call_at : Option (Text × List Row) → Option Call
call_at met = option_and_then (λ found. call_in found.0 found.1) met

-- the call, if nothing is refused
abbrev pub unless : Kinds → Option Call → Option Call
unless [] call = call
unless (kind ∷ more) call = None

-- the call of the subcommand and values that `clap` finds in the words, if it accepts them
abbrev pub call_of : List Text → Option Call
call_of words = unless (fault_of desk_app words) (call_at (subcommand_of desk_app words))

-- why a subcommand with its values, which `clap` accepted, is no call: there is none, or one of its
-- values isn't allowed
abbrev pub lacking : Option (Text × List Row) → Kinds
lacking None = MissingSubcommand ∷ []
lacking (Some met) = InvalidValue ∷ []

-- why words hold no call: what `clap` refuses in them or, if nothing, what the subcommand lacks
abbrev pub usage_of : List Text → Kinds
usage_of words = or_else (fault_of desk_app words) (lacking (subcommand_of desk_app words))

-- the words hold no call, and the error is of a kind that `clap` gives for them; or no memory was
-- left
abbrev pub IsFault : List Text → LineFault → Type 0
IsFault words (Usage error) = (call_of words ≡ None) × IsAmong (kind_of error) (usage_of words)
IsFault words (Memory error) = Unit {0}

-- the fault reports the error: as out of memory if that is its kind
abbrev pub IsFaultOf : Error → LineFault → Type 0
IsFaultOf error (Usage told) = (told ≡ error) × (kind_of error ≢ OutOfMemory)
IsFaultOf error (Memory refused) = kind_of error ≡ OutOfMemory

-- the error is of one of these kinds, or no memory was left
abbrev pub IsLack : Kinds → LineFault → Type 0
IsLack kinds (Usage error) = IsAmong (kind_of error) kinds
IsLack kinds (Memory error) = Unit {0}

-- the subcommand that was found is no call, and the error is of a kind that says why; or no memory
-- was left
abbrev pub IsLackOf : Option (Text × List Row) → LineFault → Type 0
IsLackOf met (Usage error) = (call_at met ≡ None) × IsAmong (kind_of error) (lacking met)
IsLackOf met (Memory error) = Unit {0}
