use Rattle.std.proofs.Common.{◌∙◌, ap, refl, not, drop, ◌++◌, ◌+◌}
use Rattle.desk_base.specs.Borrowed.{texts}
use Rattle.desk_tree_lint.specs.Lists.{missing}
use Rattle.desk_tree_lint.specs.Shown.{texts_in}
use Rattle.desk_tree_lint.proofs.ListLemmas.{missing_more}
use Rattle.desk_tree_lint.proofs.lists.missing.Goals as goal

pub loop-key-preserved : goal.loop-key-preserved
loop-key-preserved c =
    let listed = texts_in c.args.listed.now in
    ap (λ l. l ++ missing (texts (drop (c.loop-key.key-index + 1) c.args.used.now)) listed)
    c.in_ok-add_key_if.ensures
    ∙ missing_more c.args.used.now listed c.loop-key.key-index _ c.loop-key.lacking _
    _ c.loop-key-test.true refl
    (ap not (c.contains-lacks.ensures ∙ c.in_ok-known.ensures _))
    ∙ c.loop-key.invariant
