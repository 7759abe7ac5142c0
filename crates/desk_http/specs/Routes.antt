-- The table of routes: the method, the pattern and what is asked for.
use Rattle.std.specs.Prelude.{ℕ, List, [], ◌∷◌, codes, if◌then◌else◌, Result, Ok, Err, Option, Some, None, option_map}
use Rattle.std.specs.Str.{bytes_eq}
use Rattle.matchit.specs.Rows.{RowsOf}
use Rattle.matchit.specs.Seek.{first}
use Rattle.matchit.specs.Order.{placed}
use Rattle.matchit.specs.Route.{Scan, parse_route}
use Rattle.matchit.specs.Router.{RouteOf, route_from}
use Rattle.matchit.specs.declared.error.InsertError.{InsertError}
use Rattle.desk_http.specs.declared.table.Route.{Route}
use Rattle.desk_http.specs.declared.table.Route.TheVariants.{Post, Get}
use Rattle.desk_http.specs.declared.table.RouteRow.{RouteRow}
use Rattle.desk_http.specs.declared.table.Posted.TheVariants as posted
use Rattle.desk_http.specs.declared.table.Shown.TheVariants as shown

-- the rows of `matchit` with one more: a pattern, and what it leads to
abbrev pub with_scan : Result Scan InsertError → Route → RowsOf (RouteOf Route)
    → RowsOf (RouteOf Route)
with_scan (Ok s) route rows = placed ((route_from s route).pattern, route_from s route) rows
with_scan (Err e) route rows = rows

-- those rows with this pattern, which leads to this route
abbrev pub with_route : List ℕ → Route → RowsOf (RouteOf Route) → RowsOf (RouteOf Route)
with_route pattern route rows = with_scan (parse_route pattern) route rows

-- and with more of them, one after another
abbrev pub with_rows : List RouteRow → RowsOf (RouteOf Route) → RowsOf (RouteOf Route)
with_rows [] rows = rows
with_rows (row ∷ more) rows = with_rows more (with_route row.path.now row.route rows)

-- the desk's routes; a name in braces is one part of a path, without a slash
unfoldable pub desk_routes : RowsOf (RouteOf Route)
desk_routes =
    with_route (codes "/duties/{n}/changes") (Get shown.Changes)
    (with_route (codes "/releases/{name}/duties.csv") (Get shown.DutyTable)
    (with_route (codes "/releases/{name}/notices") (Get shown.Notices)
    (with_route (codes "/releases/{name}/totals") (Get shown.Totals)
    (with_route (codes "/releases/{name}/duties") (Get shown.Duties)
    (with_route (codes "/releases/{name}") (Get shown.Release)
    (with_route (codes "/documents/{n}/packages/{id}/cheapest/{form}") (Get shown.Cheapest)
    (with_route (codes "/documents/{n}/packages/{id}/alternatives") (Get shown.Alternatives)
    (with_route (codes "/documents/{n}/findings") (Get shown.Findings)
    (with_route (codes "/catalogue") (Post posted.Catalogue)
    (with_route (codes "/documents") (Post posted.Document)
    (with_route (codes "/commands") (Post posted.Request) [])))))))))))

-- what a path leads to in a table
abbrev pub found_at : RowsOf (RouteOf Route) → List ℕ → Option Route
found_at routes path = option_map (λ row. row.value) (first routes path)

-- the method of a route (RFC 9110, sections 9.3.1 and 9.3.3)
abbrev pub method_of : Route → List ℕ
method_of (Post posted) = codes "POST"
method_of (Get shown) = codes "GET"

-- what was found, if this is its method
abbrev pub with_method : List ℕ → Option Route → Option Route
with_method method None = None
with_method method (Some route) = if bytes_eq method (method_of route) then Some route else None

-- what a method and a path ask for
abbrev pub route_of : List ℕ → List ℕ → Option Route
route_of method path = with_method method (found_at desk_routes path)
