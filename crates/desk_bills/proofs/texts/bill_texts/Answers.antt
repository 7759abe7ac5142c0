use Rattle.std.proofs.Common.{◌≡◌, ◌∙◌, ℕ, ◌++◌, ◌∷◌, [], List, Option, map, sym, ap, subst}
use Rattle.std.specs.List.{flat_map}
use Rattle.std.specs.Vec.Iter.{into_iter_items}
use Rattle.std.proofs.lemmas.List.{map-append}
use Rattle.desk_access.proofs.Chains.{same_then_same}
use Rattle.desk_model.specs.Bills.{bill_text}
use Rattle.desk_model.specs.Readings.{Readings}
use Rattle.desk_model.specs.declared.bill.BillText.{BillText}
use Rattle.desk_model.specs.declared.bill.TextOf.{TextOf}
use Rattle.desk_bills.specs.Billing.{AreLeft, licence_found, licence_ids}
use Rattle.desk_bills.proofs.texts.bill_texts.Goals as goal

pub loop-text-preserved : goal.loop-text-preserved
loop-text-preserved g c =
    let before = c.loop-text.invariant in
    let one = c.in_ok-body.ensures in
    let text = c.in-Some.text in
    let rest = flat_map licence_ids (into_iter_items c.next.new.self) in
    let next =
    λ (w : Readings) (catalogue : Option (List ℕ)) (given : c.args.licences ≡ map (licence_found w catalogue) (flat_map licence_ids c.args.uses.items)).
    one.found w catalogue rest (subst (λ (xs : List TextOf). AreLeft w catalogue
    (flat_map licence_ids xs) c.loop-text.licences) c.in-Some.ensures.steps.0
    (before.left w catalogue given)) in
    record {
      same = same_then_same _ _ _ before.same one.kept;
      left = λ w catalogue given. (next w catalogue given).0;
      found = λ w catalogue given h t held.
          let told : TextOf → BillText = bill_text w catalogue t.extracted in
          let yielded : List TextOf = c.loop-text.yielded in
          c.in_ok-push.ensures.ok
          ∙ (ap (λ (xs : List BillText). xs ++ c.in_ok-body.body ∷ [])
          (before.found w catalogue given (one.kept.kept.spared.honest h) t held)
          ∙ (ap (λ (body : BillText). map told yielded ++ body ∷ [])
          ((next w catalogue given).1 h t (before.same.kept.spared.holds t held))
          ∙ sym (map-append told yielded (text ∷ []))));
    }
