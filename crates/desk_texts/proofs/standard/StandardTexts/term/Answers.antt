use Rattle.std.proofs.lemmas.Result.{IfOk-weaker}
use Rattle.desk_catalogue.proofs.TermsRead.{same_term}
use Rattle.desk_texts.proofs.standard.StandardTexts.term.Goals as goal

pub returns : goal.returns
returns c = λ w right. IfOk-weaker c.printed_term.result _ _
    (λ printed is. same_term c.args.text.now printed (w.term c.args.text.now) is
    (right.term c.args.text.now)) c.printed_term.ensures
