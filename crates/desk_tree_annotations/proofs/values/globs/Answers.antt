use Rattle.std.proofs.Common.{◌∙◌, ◌<◌, ap, arith, length}
use Rattle.desk_tree_annotations.proofs.RightLemmas.{same_pieces, pieces_more}
use Rattle.desk_tree_annotations.proofs.values.globs.Goals as goal

pub loop-place-preserved : goal.loop-place-preserved
loop-place-preserved c = λ r right.
    let listed = c.args.listed.now in
    let i = c.loop-place.place in
    let within : i < length listed =
    omega (arith, c.loop-place-test.true, c.len-place-end.ensures) in
    c.in_ok-push.ensures.ok
    ∙ pieces_more r.pieces listed i _ c.in_ok-glob.glob c.loop-place.globs within
    (same_pieces r right _ c.in_ok-glob.glob c.in_ok-glob.ensures
    ∙ ap r.pieces c.at.ensures) (c.loop-place.invariant r right)
