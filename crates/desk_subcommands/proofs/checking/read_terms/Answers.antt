use Rattle.std.proofs.Common.{◌+◌, take, subst, sym}
use Rattle.desk_expr.proofs.FaultLemmas.{not_memory}
use Rattle.desk_subcommands.specs.Report.{SpellTerms}
use Rattle.desk_subcommands.proofs.ReportLemmas.{texts, spell_next, first_bad}
use Rattle.desk_subcommands.proofs.checking.read_terms.Goals as goal

pub loop-word-preserved : goal.loop-word-preserved
loop-word-preserved c = subst (λ ts. SpellTerms
    (texts (take (c.loop-word.word-index + 1) c.args.words.now)) ts)
    (sym c.in_ok-push-in-Ok.ensures.items)
    (spell_next c.args.words.now c.loop-word.word-index _ c.loop-word.terms.items c.in-Ok.term
    c.loop-word-test.true c.loop-word.invariant c.in-Ok.ensures.spelled)

pub returns-in-Err : goal.returns-in-Err
returns-in-Err c = first_bad c.args.words.now c.loop-word.word-index _ c.loop-word.terms.items
    c.loop-word-test.true c.loop-word.invariant
    (not_memory c.in-Err.fault c.in_ok-unless_memory-in-Err.ensures.text c.in-Err.ensures.complete)
