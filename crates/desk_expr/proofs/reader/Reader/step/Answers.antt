use Rattle.std.proofs.Common.{sym, subst}
use Rattle.std.specs.Prelude.{IfOk, IfErr}
use Rattle.desk_expr.specs.Grammar.{Symbol}
use Rattle.desk_expr.specs.Spelling.{symbol}
use Rattle.desk_expr.specs.Reading.{Steps, Stops}
use Rattle.desk_expr.proofs.reader.Reader.step.Goals as goal

pub returns-in-Operand-clause-err : goal.returns-in-Operand-clause-err
returns-in-Operand-clause-err c =
    let s : Symbol = symbol c.args.token.now.kind c.args.token.now.text.now in
    subst (λ state. IfErr c.operand.result (Stops (record c.args.self { state = state }) s))
    (sym c.in-Operand.is) c.operand.ensures.err

pub returns-in-Word-clause-ok : goal.returns-in-Word-clause-ok
returns-in-Word-clause-ok c =
    let s : Symbol = symbol c.args.token.now.kind c.args.token.now.text.now in
    subst (λ state. IfOk c.word.result (Steps (record c.args.self { state = state }) s))
    (sym c.in-Word.is) c.word.ensures.ok

pub returns-in-Exception-clause-err : goal.returns-in-Exception-clause-err
returns-in-Exception-clause-err c =
    let s : Symbol = symbol c.args.token.now.kind c.args.token.now.text.now in
    subst (λ state. IfErr c.exception.result (Stops (record c.args.self { state = state }) s))
    (sym c.in-Exception.is) c.exception.ensures.err
