use Rattle.std.proofs.Common.{◌≡◌, ◌∙◌, ℕ, ◌+◌, [], ap, sym, subst}
use Rattle.std.specs.Prelude.{map, All, slice_index_or}
use Rattle.std.proofs.lemmas.List.{map_push, get_or-map}
use Rattle.std.proofs.lemmas.List.Elements.{All-push}
use Rattle.desk_tagvalue.specs.declared.parts.Package.{Package}
use Rattle.desk_bom.specs.declared.shipping.Named.{Named}
use Rattle.desk_bom.specs.Marks.{among}
use Rattle.desk_bom.proofs.ShippingLemmas.{range_kept, range_over}
use Rattle.desk_bom.proofs.shipping.packages_in.Goals as goal
use Rattle.desk_bom.proofs.shipping.packages_in.Goals.{then-has+in_ok-push, else-has}

pub loop-place-preserved : goal.loop-place-preserved
loop-place-preserved c =
    let packages = c.args.packages.now in
    let k = c.loop-place.place in
    let reached = λ (j : ℕ). among c.args.reached.now.order.items (j + 1) in
    let has_id = λ (n : Named). n.id.now
    ≡ slice_index_or (map (λ (p : Package). p.id.now) packages) n.place [] in
    elim c.if-has.branch [
      | then-has+in_ok-push w ↦
          record {
            places = ap (λ v. map (λ (n : Named). n.place) v.items) w.found-is
                ∙ ap (map (λ (n : Named). n.place)) w.in_ok-push.ensures.items
                ∙ map_push (λ (n : Named). n.place) c.loop-place.found.items _
                ∙ range_kept reached k (map (λ (n : Named). n.place) c.loop-place.found.items)
                (sym c.has.ensures ∙ w.if-has.true) c.loop-place.invariant.places;
            ids = subst (λ v. All has_id v.items) (sym w.found-is)
                (subst (All has_id) (sym w.in_ok-push.ensures.items)
                (All-push has_id c.loop-place.found.items _ c.loop-place.invariant.ids
                (sym (get_or-map (λ (p : Package). p.id.now) packages k _ []
                c.loop-place-test.true))));
          }
      | else-has w ↦
          record {
            places = ap (λ v. map (λ (n : Named). n.place) v.items) w.found-is
                ∙ range_over reached k (map (λ (n : Named). n.place) c.loop-place.found.items)
                (sym c.has.ensures ∙ w.if-has.false) c.loop-place.invariant.places;
            ids = subst (λ v. All has_id v.items) (sym w.found-is) c.loop-place.invariant.ids;
          }
    ]
