-- The command line of the program, as `clap` reads it.
use Rattle.std.specs.Prelude.{ℕ, pos, codes, [], ◌∷◌, Some, true}
use Rattle.clap.specs.Lexer.{usize_max}
use Rattle.clap.specs.Words.{App, Rule, Text, new_app, new_rule, with_rule, with_subcommand}
use Rattle.clap.specs.Simple.{on_top}
use Rattle.clap.specs.declared.builder.action.ArgAction.TheVariants.{Append, SetTrue}
use Rattle.clap.specs.declared.builder.value_parser.ValueParser.TheVariants.{Signed}

-- a required word at its position
abbrev pub word : Text → Rule
word name = record (new_rule name) { required = true }

-- one word or more
abbrev pub words : Text → Rule
words name = record (word name) {
  range = Some (record { start_inclusive = 1; end_inclusive = usize_max });
}

-- `--LONG NAME`, which has this value if it isn't used
abbrev pub option : Text → Text → Text → Rule
option name long value = record (new_rule name) { long = Some long; defaults = value ∷ [] }

-- `--profile PROFILE`, 1 if it isn't used
abbrev pub profile_option : Rule
profile_option = option (codes "PROFILE") (codes "profile") (codes "1")

-- `check [--profile PROFILE] EXPR TERM..`
abbrev pub check_app : App
check_app = with_rule (with_rule (with_rule (new_app (codes "check")) profile_option)
    (word (codes "EXPR"))) (words (codes "TERM"))

-- `alternatives [--profile PROFILE] EXPR`
abbrev pub alternatives_app : App
alternatives_app = with_rule (with_rule (new_app (codes "alternatives")) profile_option)
    (word (codes "EXPR"))

-- `--LONG NAME`, optional
abbrev pub optional : Text → Text → Rule
optional name long = record (new_rule name) { long = Some long }

-- `--LONG NAME ..`, optional, with one value or more each time
abbrev pub several : Text → Text → Rule
several name long = record (optional name long) {
  action = Some Append;
  range = Some (record { start_inclusive = 1; end_inclusive = usize_max });
}

-- `--LONG`, which has no value
abbrev pub flag : Text → Text → Rule
flag name long = record (new_rule name) { long = Some long; action = Some SetTrue }

-- `--explain`
abbrev pub explain_flag : Rule
explain_flag = flag (codes "EXPLAIN") (codes "explain")

-- `script [--db FILE] [--explain] [--stop]`
abbrev pub kept_script_app : App
kept_script_app = with_rule (new_app (codes "script")) (optional (codes "FILE") (codes "db"))

-- with its two flags
abbrev pub script_app : App
script_app = with_rule (with_rule kept_script_app explain_flag)
    (flag (codes "STOP") (codes "stop"))

-- `--LONG NAME`, required
abbrev pub wanted : Text → Text → Rule
wanted name long = record (new_rule name) { long = Some long; required = true }

-- `--db FILE`, the file that keeps a desk
abbrev pub database_option : Rule
database_option = wanted (codes "FILE") (codes "db")

-- `--json`
abbrev pub json_flag : Rule
json_flag = flag (codes "JSON") (codes "json")

-- `NAME --db FILE [--json] WORD..`, a request in words
abbrev pub request_app : Text → App
request_app name = with_rule (with_rule (with_rule (new_app name) database_option) json_flag)
    (words (codes "WORD"))

-- `--no-files`
abbrev pub no_files_flag : Rule
no_files_flag = flag (codes "NOFILES") (codes "no-files")

-- `import --db FILE [--profile PROFILE] [--no-files] [--explain] DOC`
abbrev pub read_import_app : App
read_import_app = with_rule (with_rule (with_rule (new_app (codes "import")) database_option)
    profile_option) no_files_flag

-- with its other values
abbrev pub import_app : App
import_app = with_rule (with_rule read_import_app explain_flag) (word (codes "DOC"))

-- `catalogue --db FILE TOML`
abbrev pub catalogue_app : App
catalogue_app = with_rule (with_rule (new_app (codes "catalogue")) database_option)
    (word (codes "TOML"))

-- `gather DIR --name NAME --namespace NAMESPACE --created CREATED`
abbrev pub named_tree_app : App
named_tree_app = with_rule (with_rule (new_app (codes "gather")) (word (codes "DIR")))
    (wanted (codes "NAME") (codes "name"))

-- with its other two values
abbrev pub gather_app : App
gather_app = with_rule (with_rule named_tree_app (wanted (codes "NAMESPACE") (codes "namespace")))
    (wanted (codes "CREATED") (codes "created"))

-- `lint DIR [--json]`
abbrev pub lint_app : App
lint_app = with_rule (with_rule (new_app (codes "lint")) (word (codes "DIR"))) json_flag

-- `--LONG NAME`, a whole number from 0 to this one, required
abbrev pub number_option : Text → Text → ℕ → Rule
number_option name long most = record (wanted name long) {
  parser = Some (Signed (pos 0) (pos most));
}

-- the same, but optional
abbrev pub optional_number : Text → Text → ℕ → Rule
optional_number name long most = record (optional name long) {
  parser = Some (Signed (pos 0) (pos most));
}

-- a whole number from 0 to this one, required at its position
abbrev pub count : Text → ℕ → Rule
count name most = record (word name) { parser = Some (Signed (pos 0) (pos most)) }

-- `NAME --db FILE RELEASE`, which writes a text about a release
abbrev pub release_app : Text → App
release_app name = with_rule (with_rule (new_app name) database_option) (word (codes "RELEASE"))

-- `wanting --db FILE [--explain] RELEASE`
abbrev pub wanting_app : App
wanting_app = with_rule (with_rule (with_rule (new_app (codes "wanting")) database_option)
    explain_flag) (word (codes "RELEASE"))

-- `notices --db FILE [--fill EXTRA ..] [--complete] [--explain] RELEASE`
abbrev pub filled_notices_app : App
filled_notices_app = with_rule (with_rule (new_app (codes "notices")) database_option)
    (several (codes "EXTRA") (codes "fill"))

-- with its other values
abbrev pub notices_app : App
notices_app = with_rule (with_rule
    (with_rule filled_notices_app (flag (codes "COMPLETE") (codes "complete"))) explain_flag)
    (word (codes "RELEASE"))

-- `changes --db FILE DUTY`, limited to the numbers that a duty may have
abbrev pub changes_app : App
changes_app = with_rule (with_rule (new_app (codes "changes")) database_option)
    (count (codes "DUTY") 4294967295)

-- `serve --db FILE --port PORT --limit N`, limited to the numbers that a port may have, and to a
-- million connections
abbrev pub serve_app : App
serve_app = with_rule (with_rule (with_rule (new_app (codes "serve")) database_option)
    (number_option (codes "PORT") (codes "port") 65535))
    (number_option (codes "N") (codes "limit") 1000000)

-- `desk`, which has a version, requires a subcommand, and shows its help if there are no words
abbrev pub desk_alone : App
desk_alone = on_top (λ s. record s {
  has_version = true;
  subcommand_required = true;
  arg_required_else_help = true;
})
    (new_app (codes "desk"))

-- with the subcommands that judge an expression
abbrev pub judging_app : App
judging_app = with_subcommand (with_subcommand desk_alone check_app.top) alternatives_app.top

-- and with those that make requests of a desk
abbrev pub scripting_app : App
scripting_app = with_subcommand (with_subcommand (with_subcommand judging_app script_app.top)
    (request_app (codes "do")).top) (request_app (codes "ask")).top

-- and with those that import a document and load a catalogue
abbrev pub requesting_app : App
requesting_app = with_subcommand (with_subcommand scripting_app import_app.top) catalogue_app.top

-- and with those that write texts
abbrev pub counting_app : App
counting_app = with_subcommand (with_subcommand requesting_app notices_app.top)
    (release_app (codes "duties")).top

-- and with those that count duties and list the changes of one
abbrev pub reporting_app : App
reporting_app = with_subcommand (with_subcommand counting_app (release_app (codes "totals")).top)
    changes_app.top

-- `audit --db FILE`
abbrev pub audit_app : App
audit_app = with_rule (new_app (codes "audit")) database_option

-- `migrate --db FILE`
abbrev pub migrate_app : App
migrate_app = with_rule (new_app (codes "migrate")) database_option

-- `backup --db FILE TO`
abbrev pub backup_app : App
backup_app = with_rule (with_rule (new_app (codes "backup")) database_option) (word (codes "TO"))

-- and with those that audit, migrate and copy a file
abbrev pub auditing_app : App
auditing_app = with_subcommand (with_subcommand (with_subcommand reporting_app audit_app.top)
    migrate_app.top) backup_app.top

-- and with those that read a source tree
abbrev pub reading_app : App
reading_app = with_subcommand (with_subcommand auditing_app gather_app.top) lint_app.top

-- and with the one that replies over HTTP
abbrev pub serving_app : App
serving_app = with_subcommand reading_app serve_app.top

-- `explain NAME`
abbrev pub explain_app : App
explain_app = with_rule (new_app (codes "explain")) (word (codes "NAME"))

-- and with the one that says what a name means
abbrev pub explaining_app : App
explaining_app = with_subcommand serving_app explain_app.top

-- `propose [--db FILE] [--profile PROFILE] [--document N] [--explain] DOC`, limited to the numbers that a
-- document may have
abbrev pub kept_proposals_app : App
kept_proposals_app = with_rule (new_app (codes "propose")) (optional (codes "FILE") (codes "db"))

-- with its other values
abbrev pub propose_app : App
propose_app = with_rule (with_rule (with_rule
    (with_rule kept_proposals_app (optional (codes "PROFILE") (codes "profile")))
    (optional_number (codes "N") (codes "document") 4294967295)) explain_flag) (word (codes "DOC"))

-- and with the one that proposes conclusions
abbrev pub proposing_app : App
proposing_app = with_subcommand explaining_app propose_app.top

-- and with those that prepare a freeze
abbrev pub freezing_app : App
freezing_app = with_subcommand (with_subcommand proposing_app (release_app (codes "choices")).top)
    wanting_app.top

-- `ready --db FILE [--day DAY] RELEASE`
abbrev pub ready_app : App
ready_app = with_rule (with_rule (with_rule (new_app (codes "ready")) database_option)
    (optional (codes "DAY") (codes "day"))) (word (codes "RELEASE"))

-- and with those that say whether a release is ready, and what its notices lack
abbrev pub readying_app : App
readying_app = with_subcommand (with_subcommand freezing_app ready_app.top)
    (release_app (codes "gaps")).top

-- `list --db FILE [--release RELEASE] [--code CODE] [--open] [--past DAY] WHAT`
abbrev pub filtered_app : App
filtered_app = with_rule (with_rule (with_rule (new_app (codes "list")) database_option)
    (optional (codes "RELEASE") (codes "release"))) (optional (codes "CODE") (codes "code"))

-- with the other filters, and what is listed
abbrev pub list_app : App
list_app = with_rule (with_rule (with_rule filtered_app (flag (codes "OPEN") (codes "open")))
    (optional (codes "DAY") (codes "past"))) (word (codes "WHAT"))

-- and with those that show what a desk holds
abbrev pub showing_app : App
showing_app = with_subcommand (with_subcommand readying_app list_app.top)
    (release_app (codes "page")).top

-- `convert [--no-files] JSON`
abbrev pub convert_app : App
convert_app = with_rule (with_rule (new_app (codes "convert")) no_files_flag) (word (codes "JSON"))

-- and with the one that converts a document
abbrev pub converting_app : App
converting_app = with_subcommand showing_app convert_app.top

-- `texts DIR`
abbrev pub texts_app : App
texts_app = with_rule (new_app (codes "texts")) (word (codes "DIR"))

-- `credits --name NAME [--of-version VERSION] DIR`
abbrev pub credits_app : App
credits_app = with_rule (with_rule (with_rule (new_app (codes "credits")) (word (codes "DIR")))
    (wanted (codes "NAME") (codes "name"))) (optional (codes "VERSION") (codes "of-version"))

-- and with those that write texts and credits for `--fill`
abbrev pub desk_app : App
desk_app = with_subcommand (with_subcommand converting_app texts_app.top) credits_app.top
