use Rattle.std.proofs.Common.{◌≡◌, ◌∙◌, Some, None, Less, Equal, Greater, sym, subst, rules}
use Rattle.std.specs.Prelude.{find}
use Rattle.std.specs.List.{HoldsAt}
use Rattle.std.specs.List.Sorted.{IsStrictlySortedBy, IsNonDecreasingBy, IsPartitionPoint}
use Rattle.std.specs.Ordering.{ordering_index}
use Rattle.desk_expr.specs.Printing.{printed_term}
use Rattle.desk_model.specs.Keys.{is_rule, rule_order}
use Rattle.desk_catalogue.proofs.Sought.{found, not_found, by_side}
use Rattle.desk_catalogue.proofs.ordered.OrderedRules.find.Goals as goal

pub returns-in-Ok : goal.returns-in-Ok
returns-in-Ok c =
    let term = printed_term c.args.term.now in
    let form = c.args.form.now in
    let sorted = subst (IsStrictlySortedBy rule_order) (sym c.as_slice-rules.ensures)
    c.self.invariant in
    subst (λ rs. Some c.index-rules-at.result ≡ find (is_rule term form) rs)
    (c.as_slice-rules.ensures ∙ c.self.view_is)
    (found term form c.as_slice-rules.result.now sorted c.in-Ok.at c.index-rules-at.result
    c.index-rules-at.is c.in-Ok.ensures.bound
    (by_side term form (λ key. HoldsAt (λ y. key y ≡ Equal) c.as_slice-rules.result.now c.in-Ok.at)
    c.in-Ok.ensures.position (λ a r q k. search rules)))

pub returns-in-Err : goal.returns-in-Err
returns-in-Err c =
    let term = printed_term c.args.term.now in
    let form = c.args.form.now in
    let sorted = subst (IsStrictlySortedBy rule_order) (sym c.as_slice-rules.ensures)
    c.self.invariant in
    subst (λ rs. None ≡ find (is_rule term form) rs) (c.as_slice-rules.ensures ∙ c.self.view_is)
    (not_found term form c.as_slice-rules.result.now sorted c.in-Err.field-0
    (by_side term form (λ key. IsNonDecreasingBy (λ y. ordering_index (key y))
    c.as_slice-rules.result.now → IsPartitionPoint (λ y. key y ≡ Less) (λ y. key y ≡ Greater)
    c.as_slice-rules.result.now c.in-Err.field-0) c.in-Err.ensures.position
    (λ a r q k. search rules)))
