use Rattle.std.proofs.Common.{◌∙◌, ◌++◌, ◌∷◌, [], get_or}
use Rattle.desk_tree_infos.specs.Sharing.{texts_at}
use Rattle.desk_tree_infos.proofs.SharingLemmas.{texts_at-take}
use Rattle.desk_tree_infos.proofs.infos.set_of.Goals as goal

pub loop-number-preserved : goal.loop-number-preserved
loop-number-preserved c =
    let all = c.args.all.now in
    let numbers = c.as_slice-number-items.result.now in
    let number = get_or numbers c.loop-number.number-index 0 in
    c.in_ok-add_at.ensures
    ∙ (λ i. c.loop-number.invariant i ++ texts_at all c.args.of (number ∷ []))
    ∙ texts_at-take all c.args.of numbers c.loop-number.number-index 0 c.loop-number-test.true
