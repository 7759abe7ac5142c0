use Rattle.std.proofs.Common.{List, inl, subst}
use Rattle.desk_expr.specs.declared.term.Term.{Term}
use Rattle.desk_texts.specs.Choices.{IsKeptOf}
use Rattle.desk_texts.proofs.choice.verdict.Goals as goal

pub returns-in-Some : goal.returns-in-Some
returns-in-Some c =
    let own : List Term = c.in_ok-own.own in
    let kept = subst (IsKeptOf own c.args.words.now) c.in-Some.is c.in_ok-kept.ensures in
    let read = kept.0 in
    inl (read.0, read.1, c.verdict_of.ensures own read.0 c.in_ok-own.ensures read.2)
