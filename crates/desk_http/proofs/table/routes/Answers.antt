use Rattle.std.proofs.Common.{◌∙◌, refl}
use Rattle.desk_http.specs.Routes.{desk_routes}
use Rattle.desk_http.proofs.table.routes.Goals as goal

pub returns-in-Ok : goal.returns-in-Ok
unfolding desk_routes
returns-in-Ok c = c.in-Ok.ensures ∙ refl
