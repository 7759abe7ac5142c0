use Rattle.std.proofs.Common.{◌∙◌, ◌++◌, ◌-◌, ◌∷◌, [], List, Option, ap, codes, map, option_and_then, ℕ}
use Rattle.std.proofs.lemmas.List.{map-append}
use Rattle.std.proofs.lemmas.Result.{on_ok_weaker}
use Rattle.serde_json.specs.Data.{Items}
use Rattle.serde_json.specs.Find.{as_array, get}
use Rattle.serde_json.specs.View.{view}
use Rattle.desk_cyclonedx.specs.Placed.{PlacedText, id_of, listed_of, placed_from, placed_text}
use Rattle.desk_cyclonedx.proofs.Placing.{placed_more}
use Rattle.desk_cyclonedx.proofs.placed.+placing.Goals as goal

pub add_placed-returns : goal.add_placed-returns
add_placed-returns t c =
    let at = c.args.at.now in
    let d = view c.args.value.now in
    let old = map placed_text c.args.found.now.items in
    let mid = map placed_text c.push.new.self.items in
    let inner : List ℕ → List ℕ → Option Items → List PlacedText =
    λ id place o. mid ++ listed_of (placed_from (c.args.depth - 1) id) place o in
    let nested = option_and_then as_array (get (codes "components") d) in
    on_ok_weaker c.add_listed.result
    (λ told. placed_more c.args.depth c.args.owner.now at d old mid
    (map placed_text c.add_listed.new.found.items) c.if-depth-eq0.false
    (ap (map placed_text) c.in_ok-push.ensures.items
    ∙ map-append placed_text c.args.found.now.items (c.in_ok-placed_here.field-0 ∷ [])
    ∙ ap (λ p. old ++ p ∷ []) c.in_ok-placed_here.ensures)
    (told ∙ ap (inner c.deref.result.now c.deref-2.result.now) c.listed.ensures
    ∙ ap (λ id. inner id c.deref-2.result.now nested) (c.deref.ensures ∙ c.in_ok-id.ensures)
    ∙ ap (λ place. inner (id_of at d) place nested) (c.deref-2.ensures ∙ c.in_ok-place.ensures)))
    c.add_listed.ensures
