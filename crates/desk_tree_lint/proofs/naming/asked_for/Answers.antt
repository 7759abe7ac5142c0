use Rattle.std.proofs.Common.{◌≡◌, ◌∙◌, [], ap, map, subst, sym}
use Rattle.std.specs.Prelude.{IfOk}
use Rattle.desk_base.specs.Borrowed.{texts}
use Rattle.desk_model.specs.Texts.{sorted_set}
use Rattle.desk_tree_infos.proofs.AmongLemmas.{among-set, set_sorted, sorted_once}
use Rattle.desk_tree_lint.specs.Firsts.{asked_in, asked_of}
use Rattle.desk_tree_lint.proofs.naming.asked_for.Goals as goal

pub returns-then-are_in_order : goal.returns-then-are_in_order
returns-then-are_in_order c =
    let keys = c.args.keys.now in
    subst (λ all. IfOk c.unmentioned_of.result (λ v. map asked_in v.items ≡ asked_of all []))
    (sorted_once keys (sorted_set keys) (c.are_in_order.ensures c.if-are_in_order.true)
    (set_sorted keys) (λ key. sym (among-set keys key)))
    c.unmentioned_of.ensures

pub returns : goal.returns
returns c =
    subst (λ keys. IfOk c.unmentioned_keys.result (λ v. map asked_in v.items ≡ asked_of keys []))
    (ap texts c.as_slice.ensures.value ∙ c.in_ok-ordered.ensures) c.unmentioned_keys.ensures
