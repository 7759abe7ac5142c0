use Rattle.std.proofs.Common.{◌≡◌, ◌∙◌, ◌++◌, ap, codes}
use Rattle.std.specs.Prelude.{decimal}
use Rattle.std.proofs.lemmas.Result.{IfOk-weaker}
use Rattle.desk_tree_problems.specs.declared.row.Kind.TheVariants.{BadAnnotation}
use Rattle.desk_tree_problems.specs.Rows.{plain_row, annotation_words}
use Rattle.desk_tree_problems.proofs.rows.annotation_row.Goals as goal

pub returns : goal.returns
returns c =
    let words : c.as_str.result.now ≡ codes "annotation " ++ (decimal c.args.index
    ++ (codes ", counted from 0, has " ++ annotation_words c.args.fault)) =
    c.as_str.ensures.value ∙ c.in_ok-message.ensures.ok
    ∙ ap (λ w. codes "annotation "
    ++ (decimal c.args.index ++ (codes ", counted from 0, has " ++ w)))
    c.annotation_words-words.ensures in
    IfOk-weaker c.row_of.result _ _
    (λ row is. is ∙ ap (plain_row BadAnnotation c.args.path.now) words) c.row_of.ensures
