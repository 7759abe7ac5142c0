use Rattle.std.proofs.Common.{◌∙◌, subst}
use Rattle.desk_tree_annotations.specs.Right.{Tells}
use Rattle.desk_tree_gather.proofs.ReaderLemmas.{same_expression}
use Rattle.desk_tree_gather.proofs.StatedLemmas.{bad_go, bad_stop}
use Rattle.desk_tree_gather.proofs.gathering.bad_line.Goals as goal

pub returns-then-not-told : goal.returns-then-not-told
returns-then-not-told c = λ r right.
    bad_stop r c.args.tags.now c.loop-tag.tag-index _ c.loop-tag-test.true
    (same_expression r right _ c.in_ok-told.told c.in_ok-told.ensures ∙ c.if-not-told.true)
    ∙ c.loop-tag.invariant.line r right

pub loop-tag-preserved : goal.loop-tag-preserved
loop-tag-preserved c = record {
  line = λ r right.
      bad_go r c.args.tags.now c.loop-tag.tag-index _ c.loop-tag-test.true
      (same_expression r right _ c.in_ok-told.told c.in_ok-told.ensures ∙ c.if-not-told.false)
      ∙ c.loop-tag.invariant.line r right;
  known = subst (Tells _) c.if-not-told.false c.in_ok-told.ensures;
}
