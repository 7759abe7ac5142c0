use Rattle.std.proofs.Common.{◌∙◌, ap, sym, cond, codes}
use Rattle.std.specs.Prelude.{◌==◌}
use Rattle.std.proofs.lemmas.Result.{IfOk-weaker}
use Rattle.desk_tree_reports.specs.Reports.{counts_of}
use Rattle.desk_tree_problems.specs.Rows.{kinds}
use Rattle.desk_tree_reports.proofs.CountLemmas.{not_none}
use Rattle.desk_tree_reports.proofs.summary.counts.Goals as goal

pub returns : goal.returns
returns c = λ rows are is.
    IfOk-weaker c.counts_of.result _ _ (λ text told.
    told ∙ ap (λ some. counts_of some rows) c.kinds.ensures
    ∙ sym (ap (λ b. cond b (codes "; nothing is wrong by the desk's rules") (counts_of kinds rows))
    (ap (λ n. n == 0) (sym is) ∙ not_none c.args.number c.if-number-eq0.false)))
    (c.counts_of.ensures rows are)
