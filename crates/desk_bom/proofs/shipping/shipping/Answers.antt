use Rattle.std.proofs.Common.{◌∙◌, subst, sym, rules, length, ◌<◌}
use Rattle.std.specs.Prelude.{All}
use Rattle.std.proofs.lemmas.List.Sorted.{IsNonDecreasingBy-from_sort_by_key, All-permutation}
use Rattle.std.specs.List.Sorted.{IsNonDecreasingBy, IsPermutation}
use Rattle.desk_tagvalue.specs.Documents.{document_text}
use Rattle.desk_bom.specs.declared.arrows.Arrow.{Arrow}
use Rattle.desk_bom.specs.Shipping.{is_start, shipping_arrows}
use Rattle.desk_bom.specs.Marks.{among, IsLeastFrom}
use Rattle.desk_bom.proofs.WalkLemmas.{least_same}
use Rattle.desk_bom.proofs.ShippingLemmas.{arrows_within}
use Rattle.desk_bom.proofs.shipping.shipping.Goals as goal

pub walk-requires-clause-sorted : goal.walk-requires-clause-sorted
walk-requires-clause-sorted c =
    subst (IsNonDecreasingBy (λ (x : Arrow). x.from)) (sym c.deref.ensures.value)
    (IsNonDecreasingBy-from_sort_by_key (λ (x : Arrow). x.from) c.sort_by_key.new.self.items
    c.in_ok-sort_by_key.ensures.sorted (λ a r q k. search rules))

pub walk-requires-clause-within : goal.walk-requires-clause-within
walk-requires-clause-within c =
    let d = document_text c.args.document.now in
    subst (λ l. All (λ (x : Arrow). x.to < length c.in_ok-reached.reached.marks.items) l)
    (sym c.deref.ensures.value)
    (All-permutation (λ (x : Arrow). x.to < length c.in_ok-reached.reached.marks.items)
    c.in_ok-arrows.arrows.items c.sort_by_key.new.self.items c.in_ok-sort_by_key.ensures.permutation
    (subst (λ l. All (λ (x : Arrow). x.to < length c.in_ok-reached.reached.marks.items) l)
    (sym c.in_ok-arrows.ensures)
    (subst (λ n. All (λ (x : Arrow). x.to < n) (shipping_arrows d))
    (sym (c.in_ok-reached.ensures.count ∙ c.in_ok-elements.ensures.count)) (arrows_within d))))

pub returns : goal.returns
returns c =
    let d = document_text c.args.document.now in
    least_same (is_start d) (among c.in_ok-reached.reached.order.items) (shipping_arrows d)
    c.sort_by_key.new.self.items (among c.walk.new.self.order.items) c.in_ok-reached.ensures.order
    (subst (λ l. IsPermutation l c.sort_by_key.new.self.items) c.in_ok-arrows.ensures
    c.in_ok-sort_by_key.ensures.permutation)
    (subst (λ l. IsLeastFrom (among c.in_ok-reached.reached.order.items) l
    (among c.walk.new.self.order.items)) c.deref.ensures.value c.in_ok-walk.ensures)
