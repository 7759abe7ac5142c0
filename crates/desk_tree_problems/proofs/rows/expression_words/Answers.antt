use Rattle.std.proofs.Common.{◌≡◌, ◌∙◌, ◌++◌}
use Rattle.std.proofs.lemmas.Result.{IfOk-weaker}
use Rattle.desk_tree_problems.specs.Rows.{mending_words, quoted, stop_words}
use Rattle.desk_tree_problems.proofs.rows.expression_words.Goals as goal

pub returns : goal.returns
returns c =
    let first : c.as_str-quoted.result.now ≡ quoted c.args.text.now = c.as_str-quoted.ensures.value
    ∙ c.in_ok-quoted.ensures in
    let second : c.as_str-stop.result.now ≡ stop_words c.args.stop = c.as_str-stop.ensures.value
    ∙ c.in_ok-stop.ensures in
    IfOk-weaker c.format.result _ _ (λ words is. is ∙ (λ j. first j ++ (second j ++ mending_words)))
    c.format.ensures.ok
