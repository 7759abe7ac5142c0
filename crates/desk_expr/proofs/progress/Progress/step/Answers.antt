use Rattle.std.proofs.Common.{refl, true, sym, subst, ◌∙◌}
use Rattle.std.specs.Prelude.{◌≢◌}
use Rattle.std.proofs.lemmas.Bool.{false≢true}
use Rattle.desk_tokens.specs.declared.token.Kind.TheVariants.{Bad}
use Rattle.desk_expr.specs.Progress.{StopsAfter}
use Rattle.desk_tokens.specs.Tokens.{lexeme}
use Rattle.desk_expr.proofs.ProgressLemmas.{stopped, one_read, over}
use Rattle.desk_expr.proofs.progress.Progress.step.Goals as goal

pub returns-in-Ok-count-clause-ok : goal.returns-in-Ok-count-clause-ok
returns-in-Ok-count-clause-ok c =
    λ front read. one_read front (lexeme c.args.token.now) c.args.self read
    (record { reader = c.in-Ok.reader; counts = c.in-Ok-count.counts; started = true })
    c.in-Ok.ensures.ok c.in-Ok-count.ensures.ok refl

pub returns-in-Err-count-clause-err : goal.returns-in-Err-count-clause-err
returns-in-Err-count-clause-err c =
    λ front read. over front (lexeme c.args.token.now) c.args.self read c.in-Ok.reader
    c.in-Ok.ensures.ok c.in-Err-count.fault c.in-Err-count.ensures.err

pub returns-in-Err-clause-err : goal.returns-in-Err-clause-err
returns-in-Err-clause-err c =
    λ front read.
    let good : c.args.token.now.kind ≢ Bad =
    λ h. false≢true (sym c.if-is_bad.false ∙ c.is_bad.ensures.1 h) in
    subst (StopsAfter front (lexeme c.args.token.now)) (sym c.at.ensures)
    (stopped front (lexeme c.args.token.now) c.args.self read good c.in-Err.halt
    c.in-Err.ensures.err)
