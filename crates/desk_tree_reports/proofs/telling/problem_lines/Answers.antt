use Rattle.std.proofs.Common.{◌∙◌, ◌++◌, ap, false}
use Rattle.std.proofs.lemmas.Result.{IfOk-weaker}
use Rattle.desk_tree_reports.specs.declared.telling.Form.TheVariants.{Lines}
use Rattle.desk_tree_reports.specs.Telling.{rows_text}
use Rattle.desk_tree_reports.proofs.TellingLemmas.{lines_are}
use Rattle.desk_tree_reports.proofs.telling.problem_lines.Goals as goal

pub returns : goal.returns
returns c =
    IfOk-weaker c.with_problems.result _ _
    (λ text told. (
      told.0,
      told.1,
      told.2
          ∙ ap (λ l. l ++ rows_text (Lines c.args.only) false told.0) c.new.ensures
          ∙ lines_are c.args.only false told.0,
    ))
    c.with_problems.ensures
