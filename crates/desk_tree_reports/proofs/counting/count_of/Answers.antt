use Rattle.std.proofs.Common.{◌∙◌, ap, length, sym}
use Rattle.desk_tree_problems.specs.declared.row.Kind.TheVariants as kind
use Rattle.desk_tree_reports.specs.Reports.{count_of}
use Rattle.desk_tree_reports.proofs.CountLemmas.{kind_counted, flaws_kind_counted, of_kind}
use Rattle.std.specs.Prelude.{count_by}
use Rattle.desk_tree_reports.proofs.counting.count_of.Goals as goal

pub returns-in-Dep5 : goal.returns-in-Dep5
returns-in-Dep5 c = λ rows are. c.from.ensures ∙ kind_counted c.args.problems.now rows kind.Dep5 are
    ∙ ap (λ k. count_of k rows) (sym c.in-Dep5.is)

pub returns-in-BlankAtEnd : goal.returns-in-BlankAtEnd
returns-in-BlankAtEnd c = λ rows are. ap length c.as_slice.ensures
    ∙ kind_counted c.args.problems.now rows kind.BlankAtEnd are
    ∙ ap (λ k. count_of k rows) (sym c.in-BlankAtEnd.is)

pub returns-in-Missing : goal.returns-in-Missing
returns-in-Missing c = λ rows are. c.len.ensures
    ∙ kind_counted c.args.problems.now rows kind.Missing are
    ∙ ap (λ k. count_of k rows) (sym c.in-Missing.is)

pub returns-in-Unused : goal.returns-in-Unused
returns-in-Unused c = λ rows are. ap length c.as_slice-in-Unused.ensures
    ∙ kind_counted c.args.problems.now rows kind.Unused are
    ∙ ap (λ k. count_of k rows) (sym c.in-Unused.is)

pub returns-in-Bare : goal.returns-in-Bare
returns-in-Bare c = λ rows are. ap length c.as_slice-in-Bare.ensures
    ∙ kind_counted c.args.problems.now rows kind.Bare are
    ∙ ap (λ k. count_of k rows) (sym c.in-Bare.is)

pub returns-in_default : goal.returns-in_default
returns-in_default c = λ rows are.
    let k = c.args.kind in
    let other = c.in_default in
    c.flaws_of.ensures ∙ ap (count_by (of_kind k)) c.as_slice-in_default.ensures
    ∙ flaws_kind_counted c.args.problems.now rows k other.not-Dep5 other.not-BlankAtEnd
    other.not-Missing other.not-Unused other.not-Bare are
