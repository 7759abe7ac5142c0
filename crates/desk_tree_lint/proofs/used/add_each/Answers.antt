use Rattle.std.proofs.Common.{subst, ◌∙◌, ◌⊎◌, ◌↔◌}
use Rattle.std.specs.Prelude.{Contains}
use Rattle.std.proofs.lemmas.List.{drop_all}
use Rattle.desk_tree_lint.specs.Used.{Uses}
use Rattle.desk_tree_lint.proofs.UsedLemmas.{some_more, some_end, along}
use Rattle.desk_tree_lint.proofs.used.add_each.Goals as goal

pub loop-licence-preserved : goal.loop-licence-preserved
loop-licence-preserved c = λ key.
    along (some_more (λ text. Uses text key) c.args.licences.now c.loop-licence.licence-index
    c.licence-item.result _ _ c.loop-licence-test.true
    (subst (λ t. Contains c.add_used.new.keys key
    ↔ (Contains c.loop-licence.keys key ⊎ Uses t key)) (c.as_str.ensures ∙ c.licence-item.is)
    (c.in_ok-add_used.ensures key)))
    (c.loop-licence.invariant key)

pub returns : goal.returns
returns c = λ key. along (some_end (λ text. Uses text key) _ _
    (drop_all c.loop-licence.licence-index c.args.licences.now c.loop-licence-test.false))
    (c.loop-licence.invariant key)
