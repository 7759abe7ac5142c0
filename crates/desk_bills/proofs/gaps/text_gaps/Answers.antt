use Rattle.std.proofs.Common.{◌≡◌, ◌∙◌, ℕ, ◌++◌, ◌∷◌, [], List, Option, map, sym, ap, subst}
use Rattle.std.specs.List.{flat_map}
use Rattle.std.specs.Vec.Iter.{into_iter_items}
use Rattle.std.proofs.lemmas.List.{append-nil}
use Rattle.std.proofs.lemmas.List.Concat.{flat_map-append}
use Rattle.desk_access.proofs.Chains.{same_then_same}
use Rattle.desk_model.specs.Gaps.{text_gaps}
use Rattle.desk_model.specs.Readings.{Readings}
use Rattle.desk_model.specs.declared.bill.TextOf.{TextOf}
use Rattle.desk_model.specs.declared.gap.Gap.{Gap}
use Rattle.desk_bills.specs.Billing.{AreLeft, licence_found, licence_ids}
use Rattle.desk_bills.specs.Lacking.{one_found}
use Rattle.desk_bills.proofs.gaps.text_gaps.Goals as goal

pub loop-text-preserved : goal.loop-text-preserved
loop-text-preserved g c =
    let before = c.loop-text.invariant in
    let one = c.in_ok-found.ensures in
    let text = c.in-Some.text in
    let rest = flat_map licence_ids (into_iter_items c.next.new.self) in
    let next =
    λ (w : Readings) (catalogue : Option (List ℕ)) (given : c.args.licences ≡ map (licence_found w catalogue) (flat_map licence_ids c.args.uses.items)).
    one.found w catalogue rest (subst (λ (xs : List TextOf). AreLeft w catalogue
    (flat_map licence_ids xs) c.loop-text.licences) c.in-Some.ensures.steps.0
    (before.left w catalogue given)) in
    record {
      same = same_then_same _ _ _ before.same one.kept;
      left = λ w catalogue given. (next w catalogue given).0;
      found = λ w catalogue given h t held.
          let told : TextOf → List Gap = text_gaps w catalogue t.extracted in
          let yielded : List TextOf = c.loop-text.yielded in
          c.in_ok-add_found.ensures
          ∙ (ap (λ (xs : List Gap). xs ++ one_found c.in_ok-found.found)
          (before.found w catalogue given (one.kept.kept.spared.honest h) t held)
          ∙ (ap (λ (xs : List Gap). flat_map told yielded ++ xs)
          ((next w catalogue given).1 h t (before.same.kept.spared.holds t held)
          ∙ sym (append-nil (told text)))
          ∙ sym (flat_map-append told yielded (text ∷ []))));
    }
