use Rattle.std.proofs.Common.{◌≡◌, ◌∙◌, ◌++◌, subst}
use Rattle.desk_tree_annotations.specs.Right.{Tells}
use Rattle.desk_tree_annotations.specs.Tags.{tag_text}
use Rattle.desk_tree_gather.proofs.ReaderLemmas.{same_expression}
use Rattle.desk_tree_gather.proofs.SurveyLemmas.{told_good, told_bad}
use Rattle.desk_tree_gather.proofs.surveying.add_tag.Goals as goal

pub returns-then-told-clause-known : goal.returns-then-told-clause-known
returns-then-told-clause-known c = subst (Tells c.args.tag.value.now) c.if-told.true
    c.in_ok-told.ensures

pub returns-then-told-clause-flaws : goal.returns-then-told-clause-flaws
returns-then-told-clause-flaws c = λ r right.
    told_good r c.args.path.now (tag_text c.args.tag) c.args.flaws.now
    (same_expression r right c.args.tag.value.now c.in_ok-told.told c.in_ok-told.ensures
    ∙ c.if-told.true)

pub returns-clause-flaws : goal.returns-clause-flaws
returns-clause-flaws c = λ r right.
    subst (λ l. c.push.new.self ≡ c.args.flaws.now ++ l)
    (told_bad r c.args.path.now (tag_text c.args.tag) c.in_ok-path.path c.in_ok-value.value
    (same_expression r right c.args.tag.value.now c.in_ok-told.told c.in_ok-told.ensures
    ∙ c.if-told.false)
    c.in_ok-path.ensures.cases c.in_ok-value.ensures)
    c.in_ok-push.ensures.ok
