-- The request that a method, a target and a body make.
use Rattle.std.specs.Prelude.{◌≡◌, ℕ, List, if◌then◌else◌, Option, Some, None, option_map, unwrap_or}
use Rattle.std.specs.Str.{is_utf8}
use Rattle.desk_base.specs.declared.profile.Profile.TheVariants.{Capitals}
use Rattle.desk_http_head.specs.Fields.{number_text}
use Rattle.desk_http_head.specs.Framings.{Framed, part, bad, whole}
use Rattle.desk_http.specs.Paths.{path_of, part_at}
use Rattle.desk_http.specs.Routes.{route_of}
use Rattle.desk_http.specs.declared.table.Posted.{Posted}
use Rattle.desk_http.specs.declared.table.Posted.TheVariants as posted
use Rattle.desk_http.specs.declared.table.Route.{Route}
use Rattle.desk_http.specs.declared.table.Route.TheVariants.{Post, Get}
use Rattle.desk_http.specs.declared.table.Shown.{Shown}
use Rattle.desk_http.specs.declared.table.Shown.TheVariants as shown
use Rattle.desk_json.specs.Requests.{request_in}
use Rattle.desk_json.specs.declared.request.Request.TheVariants as json
use Rattle.desk_json.specs.declared.request.Request as line
use Rattle.desk_model.specs.declared.command.Command.TheVariants as command
use Rattle.desk_model.specs.declared.command.Query.{Query}
use Rattle.desk_model.specs.declared.command.Query.TheVariants as query
use Rattle.desk_http.specs.declared.asking.Reading.{Reading}
use Rattle.desk_http.specs.declared.asking.Reading.TheVariants as reading
use Rattle.desk_http.specs.declared.asking.Request.{Request}
use Rattle.desk_http.specs.declared.asking.Request.TheVariants.{Act, Ask, NoRoute, BadCommand, NotText}
use Rattle.desk_http.specs.declared.asking.Shape.TheVariants.{Json, Notices, Csv}

-- a request of a line
abbrev pub of_line : line.Request → Request
of_line (json.Act c) = Act c
of_line (json.Ask q) = Ask q Json
of_line json.BadCommand = BadCommand

-- what is posted: a request as JSON, a document, or a catalogue, which must be UTF-8
abbrev pub posted_request : Posted → List ℕ → Request
posted_request posted.Request body = of_line (request_in body)
posted_request posted.Document body = Act (command.Import body Capitals)
posted_request posted.Catalogue body = if is_utf8 body then Act (command.LoadCatalogue body)
    else NotText

-- a query that needs a number of 1 to 18 digits
abbrev pub with_number : List ℕ → (ℕ → Query) → Request
with_number text ask = unwrap_or (option_map (λ n. Ask (ask n) Json) (number_text text)) NoRoute

-- what is shown at a path, whose parts take the place of the names in its pattern
abbrev pub shown_request : Shown → List ℕ → Request
shown_request shown.Findings path = with_number (part_at 2 path) (λ n. query.Findings n)
shown_request shown.Alternatives path = with_number (part_at 2 path)
    (λ n. query.Alternatives n (part_at 4 path))
shown_request shown.Cheapest path = with_number (part_at 2 path)
    (λ n. query.Cheapest n (part_at 4 path) (part_at 6 path))
shown_request shown.Release path = Ask (query.Release (part_at 2 path)) Json
shown_request shown.Duties path = Ask (query.Duties (part_at 2 path)) Json
shown_request shown.Totals path = Ask (query.Totals (part_at 2 path)) Json
shown_request shown.Notices path = Ask (query.Bill (part_at 2 path)) Notices
shown_request shown.DutyTable path = Ask (query.Duties (part_at 2 path)) Csv
shown_request shown.Changes path = with_number (part_at 2 path) (λ n. query.Changes n)

-- the request of a route: what a POST makes of its body, or a GET of its path
abbrev pub route_request : Option Route → List ℕ → List ℕ → Request
route_request None path body = NoRoute
route_request (Some (Post what)) path body = posted_request what body
route_request (Some (Get what)) path body = shown_request what path

-- What is asked for. By the grammar of a head each target is UTF-8.
abbrev pub request_for : (method target body : List ℕ) → Request
request_for method target body =
    if is_utf8 target then route_request (route_of method (path_of target)) (path_of target) body
    else NoRoute

-- a reading, which owns its request, shows what bytes begin with
abbrev pub Shows : Reading → Framed → Type 0
Shows (reading.Whole request rest) (whole method target body left) = (request
    ≡ request_for method target body) × (rest.now ≡ left)
Shows reading.Part part = Unit {0}
Shows (reading.Bad status) (bad given) = status ≡ given
Shows _ _ = ⊥
