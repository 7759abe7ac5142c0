use Rattle.std.proofs.Common.{subst, sym}
use Rattle.desk_subcommands.specs.Report.{IsReadTo, SpellTerms}
use Rattle.desk_subcommands.proofs.ReportLemmas.{texts, stops_with, verdict_reported}
use Rattle.desk_subcommands.proofs.checking.judge.Goals as goal

pub returns : goal.returns
returns c = verdict_reported c.args.profile c.args.expression.now (texts c.args.words.now)
    c.as_slice.result.now c.in-Ok.tree c.verdict.result c.in-Ok.ensures.spelled
    (subst (λ ts. SpellTerms (texts c.args.words.now) ts) (sym c.as_slice.ensures.value)
    (subst (λ read. IsReadTo (texts c.args.words.now) read) c.in-All.is c.in_ok-word.ensures))
    c.verdict.ensures

pub returns-in-Err : goal.returns-in-Err
returns-in-Err c = stops_with c.args.profile c.args.expression.now c.in-Err.fault
    c.in_ok-unless_memory-in-Err.field-0 c.in_ok-unless_memory-in-Err.ensures.same
    c.in_ok-unless_memory-in-Err.ensures.text
    c.in-Err.ensures.stop c.in-Err.ensures.complete
