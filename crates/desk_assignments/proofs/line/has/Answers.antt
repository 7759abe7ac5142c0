use Rattle.std.proofs.Common.{◌≡◌, ap, ◌∙◌, Option, Some, None, Bor, refl, option_map}
use Rattle.std.specs.Prelude.{is_some}
use Rattle.serde_json.specs.View.{view}
use Rattle.serde_json.specs.declared.value.Value.{Value}
use Rattle.serde_json.proofs.Views.{view-lookup}
use Rattle.desk_assignments.proofs.line.has.Goals as goal

some_seen : (r : Option (Bor Value))
    → is_some r ≡ is_some (option_map view (option_map (λ v. v.now) r))
some_seen None = refl
some_seen (Some v) = refl

pub returns : goal.returns
returns c = c.is_some.ensures ∙ some_seen c.get.result
    ∙ ap (λ v. is_some (option_map view v)) c.get.ensures.value
    ∙ ap is_some (view-lookup c.args.name.now c.args.members.now.entries)
