use Rattle.std.proofs.Common.{◌∙◌, ◌++◌, ◌∷◌, [], ap, codes, length}
use Rattle.std.specs.Prelude.{decimal}
use Rattle.desk_tree_reports.specs.Reports.{counts}
use Rattle.desk_tree_reports.proofs.LineLemmas.{summary_added}
use Rattle.desk_tree_reports.proofs.summary.add_summary.Goals as goal

pub returns : goal.returns
returns c = λ rows are.
    let number = c.in_ok-count.ensures rows are in
    summary_added c.args.text.now c.add-3.new.self c.as_bytes.result.now
    c.as_slice.result.now (counts rows)
    (codes "problems: ") (decimal (length rows)) (codes ", covered files: ")
    (decimal c.args.problems.now.covered)
    (c.as_bytes.ensures.value ∙ c.in_ok-words.ensures.ok
    ∙ ap (λ n. codes "problems: "
    ++ (decimal n ++ (codes ", covered files: " ++ decimal c.args.problems.now.covered))) number)
    (c.as_slice.ensures.value ∙ c.in_ok-counts.ensures rows are number)
    (c.in_ok-add-3.ensures ∙ ap (λ l. l ++ 10 ∷ [])
    (c.in_ok-add-2.ensures ∙ ap (λ l. l ++ c.as_slice.result.now) c.in_ok-add.ensures))
