use Rattle.std.proofs.Common.{◌∙◌, ◌+◌, sym, ap, drop}
use Rattle.toml.specs.View.{view, items_view}
use Rattle.desk_tree_annotations.specs.Reading.{each, annotation_at}
use Rattle.desk_tree_annotations.proofs.EntryLemmas.{onto-item, onto-fault}
use Rattle.desk_tree_annotations.proofs.entries.each_annotation.Goals as goal
use Rattle.desk_base.proofs.Results.{onto}

pub returns-in-Err : goal.returns-in-Err
returns-in-Err c = λ r right.
    let entry = annotation_at r in
    sym (c.loop-i.invariant r right)
    ∙ onto-fault entry c.loop-i.list.items c.args.values.now c.loop-i.i c.index-values-i.result
    c.in-Err.fault c.loop-i-test.true
    (ap (λ v. entry c.loop-i.i (view v)) (sym c.index-values-i.is)
    ∙ sym (c.in_ok-annotation.ensures r right) ∙ c.in-Err.is)

pub loop-i-preserved : goal.loop-i-preserved
loop-i-preserved c = λ r right.
    let entry = annotation_at r in
    ap (λ done. onto done (each entry (c.loop-i.i + 1)
    (items_view (drop (c.loop-i.i + 1) c.args.values.now)))) c.in_ok-push-in-Ok.ensures.items
    ∙ sym (onto-item entry c.loop-i.list.items c.args.values.now c.loop-i.i c.index-values-i.result
    c.in-Ok.annotation c.loop-i-test.true
    (ap (λ v. entry c.loop-i.i (view v)) (sym c.index-values-i.is)
    ∙ sym (c.in_ok-annotation.ensures r right) ∙ c.in-Ok.is))
    ∙ c.loop-i.invariant r right
