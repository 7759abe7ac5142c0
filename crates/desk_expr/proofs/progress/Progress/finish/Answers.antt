use Rattle.std.proofs.Common.{sym, ◌∙◌, refl, subst}
use Rattle.desk_expr.specs.Reading.{EndsWith}
use Rattle.desk_expr.proofs.ProgressLemmas.{spelled_here, ends_unexpected, ends_unclosed}
use Rattle.desk_expr.proofs.progress.Progress.finish.Goals as goal

pub returns-in-Ok-clause-ok : goal.returns-in-Ok-clause-ok
returns-in-Ok-clause-ok c =
    λ front read. (spelled_here front c.args.self read c.in-Ok.tree).1
    ((c.in-Ok.ensures.ok c.in-Ok.tree).1 refl)

pub returns-in-Err-Unexpected-clause-err : goal.returns-in-Err-Unexpected-clause-err
returns-in-Err-Unexpected-clause-err c =
    λ front read. (
      sym read.started ∙ c.if-not-started.false,
      (
        ends_unexpected front c.args.self read
            (subst (EndsWith c.args.self.reader) c.in-Err-Unexpected.field-0-is
            c.in-Err-Unexpected.ensures.err),
        refl,
      ),
    )

pub returns-in-Err-Unclosed-clause-err : goal.returns-in-Err-Unclosed-clause-err
returns-in-Err-Unclosed-clause-err c =
    λ front read.
    let ends = subst (EndsWith c.args.self.reader) c.in-Err-Unclosed.field-0-is
    c.in-Err-Unclosed.ensures.err in (
      sym read.started ∙ c.if-not-started.false,
      ends_unclosed front c.args.self read c.last_open.result ends c.last_open.ensures
          c.args.length,
    )
