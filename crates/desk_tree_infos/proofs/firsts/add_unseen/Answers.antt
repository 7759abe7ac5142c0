use Rattle.std.proofs.Common.{◌≡◌, ◌∙◌, true, false, ap, subst, ◌++◌, ◌∷◌, []}
use Rattle.std.specs.Prelude.{◌||◌}
use Rattle.std.specs.Str.{bytes_eq}
use Rattle.std.proofs.lemmas.List.{take_all}
use Rattle.desk_base.specs.TextSets.{has_text}
use Rattle.desk_base.proofs.SetLemmas.{one_more}
use Rattle.desk_base.proofs.Bools.{was_there, was_new}
use Rattle.desk_tree_infos.specs.Firsts.{AddsUnseen}
use Rattle.desk_tree_infos.proofs.FirstsLemmas.{adds_nothing, adds_known, adds_new}
use Rattle.desk_tree_infos.proofs.firsts.add_unseen.Goals as goal

pub loop-text-init : goal.loop-text-init
loop-text-init c = adds_nothing c.args.seen.now c.args.list.now.items

pub loop-text-preserved-then-not-added : goal.loop-text-preserved-then-not-added
loop-text-preserved-then-not-added c =
    let is = c.as_str.ensures ∙ c.text-item.is in
    adds_known c.args.texts.now c.loop-text.text-index c.text-item.result c.args.seen.now
    c.loop-text.seen c.args.list.now.items c.loop-text.list.items c.loop-text-test.true
    c.loop-text.invariant
    c.insert.new.self
    (subst (λ t. has_text c.loop-text.seen t ≡ true) is
    (was_there c.in_ok-added.added _ c.in_ok-added.ensures.added c.if-not-added.true))
    (λ q. one_more c.as_str.result c.loop-text.seen c.insert.new.self c.in_ok-added.ensures.updates q
    ∙ ap (λ t. bytes_eq t q || has_text c.loop-text.seen q) is)

pub loop-text-preserved : goal.loop-text-preserved
loop-text-preserved c =
    let is = c.as_str.ensures ∙ c.text-item.is in
    let same : c.in_ok-clone.field-0 ≡ c.text-item.result = c.in_ok-clone.ensures.cases in
    adds_new c.args.texts.now c.loop-text.text-index c.text-item.result c.args.seen.now
    c.loop-text.seen c.args.list.now.items c.loop-text.list.items c.loop-text-test.true
    c.loop-text.invariant
    c.insert.new.self c.push.new.self.items
    (subst (λ t. has_text c.loop-text.seen t ≡ false) is
    (was_new c.in_ok-added.added _ c.in_ok-added.ensures.added c.if-not-added.false))
    (λ q. one_more c.as_str.result c.loop-text.seen c.insert.new.self c.in_ok-added.ensures.updates q
    ∙ ap (λ t. bytes_eq t q || has_text c.loop-text.seen q) is)
    (c.in_ok-push.ensures.items ∙ ap (λ t. c.loop-text.list.items ++ t ∷ [])
    (same ∙ c.text-item.is))

pub returns : goal.returns
returns c =
    subst (λ texts. AddsUnseen texts c.args.seen.now c.loop-text.seen c.args.list.now.items
    c.loop-text.list.items)
    (take_all c.loop-text.text-index c.args.texts.now c.loop-text-test.false) c.loop-text.invariant
