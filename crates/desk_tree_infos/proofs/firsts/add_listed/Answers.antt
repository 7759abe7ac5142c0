use Rattle.std.proofs.Common.{◌≡◌, ◌∙◌, ◌≤◌, ◌<◌, true, false, ap, subst, arith, length, ◌++◌}
use Rattle.std.proofs.Common.{◌∷◌, []}
use Rattle.std.specs.Prelude.{◌||◌}
use Rattle.std.specs.Str.{bytes_eq}
use Rattle.std.proofs.lemmas.List.{take_all}
use Rattle.desk_base.specs.TextSets.{has_text}
use Rattle.desk_base.proofs.SetLemmas.{one_more}
use Rattle.desk_base.proofs.Bools.{was_there, was_new}
use Rattle.desk_tree_infos.specs.Firsts.{AddsUnseen}
use Rattle.desk_tree_infos.proofs.FirstsLemmas.{adds_nothing, adds_known, adds_new}
use Rattle.desk_tree_infos.proofs.firsts.add_listed.Goals as goal

pub loop-place-init : goal.loop-place-init
loop-place-init c = adds_nothing c.args.seen.now c.args.list.now.items

pub loop-place-preserved-then-not-added : goal.loop-place-preserved-then-not-added
loop-place-preserved-then-not-added c =
    let texts = c.args.texts.now in
    let i = c.loop-place.place in
    let within : i < length texts =
    omega (arith, c.loop-place-test.true, c.len-place-end.ensures) in
    adds_known texts i [] c.args.seen.now c.loop-place.seen c.args.list.now.items
    c.loop-place.list.items within c.loop-place.invariant c.insert.new.self
    (subst (λ t. has_text c.loop-place.seen t ≡ true) c.at.ensures
    (was_there c.in_ok-added.added _ c.in_ok-added.ensures.added c.if-not-added.true))
    (λ q. one_more c.at.result c.loop-place.seen c.insert.new.self c.in_ok-added.ensures.updates q
    ∙ ap (λ t. bytes_eq t q || has_text c.loop-place.seen q) c.at.ensures)

pub loop-place-preserved : goal.loop-place-preserved
loop-place-preserved c =
    let texts = c.args.texts.now in
    let i = c.loop-place.place in
    let within : i < length texts =
    omega (arith, c.loop-place-test.true, c.len-place-end.ensures) in
    adds_new texts i [] c.args.seen.now c.loop-place.seen c.args.list.now.items
    c.loop-place.list.items within c.loop-place.invariant c.insert.new.self c.push.new.self.items
    (subst (λ t. has_text c.loop-place.seen t ≡ false) c.at.ensures
    (was_new c.in_ok-added.added _ c.in_ok-added.ensures.added c.if-not-added.false))
    (λ q. one_more c.at.result c.loop-place.seen c.insert.new.self c.in_ok-added.ensures.updates q
    ∙ ap (λ t. bytes_eq t q || has_text c.loop-place.seen q) c.at.ensures)
    (c.in_ok-push.ensures.items ∙ ap (λ t. c.loop-place.list.items ++ t ∷ [])
    c.in_ok-share.ensures)

pub returns : goal.returns
returns c =
    let past : length c.args.texts.now ≤ c.loop-place.place =
    omega (arith, c.loop-place-test.false, c.len-place-end.ensures) in
    subst (λ texts. AddsUnseen texts c.args.seen.now c.loop-place.seen c.args.list.now.items
    c.loop-place.list.items)
    (take_all c.loop-place.place c.args.texts.now past) c.loop-place.invariant
