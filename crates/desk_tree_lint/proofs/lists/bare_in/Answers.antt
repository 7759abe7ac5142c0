use Rattle.std.proofs.Common.{◌∙◌, ◌++◌, ◌+◌, drop, ap, map, refl}
use Rattle.desk_tree_infos.specs.Sharing.{outline_in}
use Rattle.desk_tree_lint.specs.Lists.{bare_in}
use Rattle.desk_tree_lint.proofs.ListLemmas.{bare_more}
use Rattle.desk_tree_lint.proofs.lists.bare_in.Goals as goal

pub loop-file-preserved : goal.loop-file-preserved
loop-file-preserved c =
    ap (λ l. l ++ bare_in (map outline_in (drop (c.loop-file.file-index + 1) c.args.outlines.now)))
    c.in_ok-add_if.ensures
    ∙ bare_more c.args.outlines.now c.loop-file.file-index _ c.loop-file.paths _ _
    c.loop-file-test.true refl c.is_bare.ensures
    ∙ c.loop-file.invariant
