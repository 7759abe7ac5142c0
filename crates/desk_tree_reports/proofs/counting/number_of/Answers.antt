use Rattle.std.proofs.Common.{◌≡◌, ◌∙◌, ◌+◌, ◌∷◌, [], ap, arith, length}
use Rattle.std.specs.Prelude.{sum}
use Rattle.std.proofs.lemmas.Result.{IfOk-weaker}
use Rattle.desk_tree_reports.proofs.CountLemmas.{all_counted, dep5_count}
use Rattle.desk_tree_reports.proofs.counting.number_of.Goals as goal

pub returns : goal.returns
returns c = λ rows are.
    let p = c.args.problems.now in
    let each : sum (dep5_count p.dep5 ∷ length p.flaws ∷ length p.blanks ∷ length p.names
    ∷ length p.unused ∷ length p.bare ∷ [])
    ≡ dep5_count p.dep5 + (length p.flaws
    + (length p.blanks + (length p.names + (length p.unused + length p.bare)))) = omega arith in
    IfOk-weaker c.total.result _ _ (λ number is.
    is ∙ (λ j. sum (c.from.ensures j ∷ ap length c.as_slice.ensures j
    ∷ ap length c.as_slice-2.ensures j ∷ c.len.ensures j ∷ ap length c.as_slice-3.ensures j
    ∷ ap length c.as_slice-4.ensures j ∷ []))
    ∙ each ∙ all_counted p rows are) c.total.ensures
