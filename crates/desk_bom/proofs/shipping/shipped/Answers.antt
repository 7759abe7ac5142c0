use Rattle.std.proofs.Common.{◌≡◌, ◌∙◌, ◌+◌, ap, subst, sym, length, rules}
use Rattle.std.specs.Prelude.{All, map, filter}
use Rattle.std.proofs.lemmas.List.Sorted.{All-permutation}
use Rattle.std.specs.List.{range_with_len}
use Rattle.std.proofs.lemmas.Fn.{always_returns_same}
use Rattle.desk_bom.specs.Marks.{among}
use Rattle.desk_tagvalue.specs.Documents.{document_text}
use Rattle.desk_bom.specs.declared.shipping.Named.{Named}
use Rattle.desk_bom.specs.Shipping.{AreShipped}
use Rattle.desk_bom.proofs.ShippingLemmas.{HasId, are_shipped}
use Rattle.desk_bom.proofs.shipping.shipped.Goals as goal

pub returns : goal.returns
returns c =
    let doc = c.args.document.now in
    let named = c.in_ok-named.named.items in
    let moved = c.sort_by_key.new.self.items in
    let reached = c.in_ok-reached.reached.order.items in
    let ids = subst (λ l. All (HasId l) named) c.as_slice.ensures c.in_ok-named.ensures.ids in
    subst (AreShipped (document_text doc))
    (sym (c.in_ok-places.ensures ∙ ap (map (λ (n : Named). n.place)) c.deref.ensures.value))
    (are_shipped doc reached named moved
    (All-permutation (HasId doc.packages) named moved c.in_ok-sort_by_key.ensures.permutation ids)
    (c.in_ok-sort_by_key.ensures.sorted (λ (n : Named). n.id)
    (always_returns_same _ (λ a r. r ≡ a.0.now.id) _ (λ a r q k. search rules)))
    c.in_ok-reached.ensures (c.in_ok-named.ensures.places
    ∙ ap (λ l. filter (λ k. among reached (k + 1)) (range_with_len 0 (length l)))
    c.as_slice.ensures) c.in_ok-sort_by_key.ensures.permutation)
