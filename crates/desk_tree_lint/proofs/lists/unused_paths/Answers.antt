use Rattle.std.proofs.Common.{◌∙◌, ap, not, drop, ◌++◌, ◌+◌}
use Rattle.desk_base.specs.Borrowed.{texts}
use Rattle.desk_base.specs.TextSets.{is_among}
use Rattle.desk_tree_lint.specs.Lists.{unused}
use Rattle.desk_tree_lint.specs.Shown.{text_in, texts_in}
use Rattle.desk_tree_lint.proofs.ListLemmas.{unused_more}
use Rattle.desk_tree_lint.proofs.lists.unused_paths.Goals as goal

pub loop-text-preserved : goal.loop-text-preserved
loop-text-preserved c = λ up.
    ap (λ l. l ++ unused (texts c.args.used.now)
    (texts_in (drop (c.loop-text.text-index + 1) c.args.listed.now))) c.in_ok-add_if.ensures
    ∙ unused_more (texts c.args.used.now) c.args.listed.now c.loop-text.text-index c.text-item.result
    c.loop-text.paths _ _ c.loop-text-test.true
    (ap (λ t. (text_in t).path) c.text-item.is)
    (ap not (c.has_key-needless.ensures up
    ∙ ap (is_among (texts c.args.used.now))
    (c.as_str.ensures ∙ ap (λ t. (text_in t).key) c.text-item.is)))
    ∙ c.loop-text.invariant up
