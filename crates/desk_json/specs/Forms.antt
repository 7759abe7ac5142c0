-- The forms of requests, by the words that name them.
use Rattle.std.specs.Prelude.{ℕ, List, [], ◌∷◌, if◌then◌else◌, Option, None, Some}
use Rattle.std.specs.Str.{bytes_eq}
use Rattle.serde_json.specs.Data.{Data}
use Rattle.desk_json.specs.Requests.{catalogue_request, import_request, open_request}
use Rattle.desk_json.specs.Requests.{attach_request, choose_request, freeze_request}
use Rattle.desk_json.specs.Requests.{unchoose_request, conclude_request, adopt_request}
use Rattle.desk_json.specs.Requests.{meet_request, waive_request, reopen_request, withdraw_request}
use Rattle.desk_json.specs.Requests.{close_request, duties_request, totals_request, changes_request}
use Rattle.desk_json.specs.Requests.{findings_request, release_request, alternatives_request}
use Rattle.desk_json.specs.Requests.{cheapest_request, releases_request, documents_request}
use Rattle.desk_json.specs.Requests.{open_duties_request, wanting_request, ready_request}
use Rattle.desk_json.specs.Requests.{gaps_request}
use Rattle.desk_json.specs.declared.forms.Form.{Form}
use Rattle.desk_json.specs.declared.forms.Form.TheVariants as form
use Rattle.desk_json.specs.declared.forms.Name.{Name}
use Rattle.desk_json.specs.declared.request.Request.{Request}
use Rattle.desk_json.specs.declared.request.Request.TheVariants.{BadCommand}

-- the form that a word names, byte for byte, if there is one
abbrev pub form_named : List ℕ → List Name → Option Form
form_named word [] = None
form_named word (name ∷ more) = if bytes_eq word name.word.now then Some name.form
    else form_named word more

-- the request that a value is in a form
abbrev pub form_request : Form → Data → Request
form_request form.Catalogue d = catalogue_request d
form_request form.Import d = import_request d
form_request form.Open d = open_request d
form_request form.Attach d = attach_request d
form_request form.Choose d = choose_request d
form_request form.Freeze d = freeze_request d
form_request form.Unchoose d = unchoose_request d
form_request form.Conclude d = conclude_request d
form_request form.Adopt d = adopt_request d
form_request form.Meet d = meet_request d
form_request form.Waive d = waive_request d
form_request form.Reopen d = reopen_request d
form_request form.Withdraw d = withdraw_request d
form_request form.Close d = close_request d
form_request form.Duties d = duties_request d
form_request form.Totals d = totals_request d
form_request form.Changes d = changes_request d
form_request form.Findings d = findings_request d
form_request form.Release d = release_request d
form_request form.Alternatives d = alternatives_request d
form_request form.Cheapest d = cheapest_request d
form_request form.Releases d = releases_request d
form_request form.Documents d = documents_request d
form_request form.OpenDuties d = open_duties_request d
form_request form.Wanting d = wanting_request d
form_request form.Ready d = ready_request d
form_request form.Gaps d = gaps_request d

-- the request of a form, if there is one
abbrev pub request_by : Option Form → Data → Request
request_by None d = BadCommand
request_by (Some named) d = form_request named d
