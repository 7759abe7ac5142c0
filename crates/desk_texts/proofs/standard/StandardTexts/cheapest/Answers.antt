use Rattle.std.proofs.Common.{◌∙◌, sym, ap, map}
use Rattle.std.proofs.lemmas.Result.{IfOk-weaker}
use Rattle.desk_texts.proofs.Verdicts.{tells_cheapest, tells_terms}
use Rattle.desk_texts.proofs.standard.StandardTexts.cheapest.Goals as goal

pub returns : goal.returns
returns c = λ w right profile text is cost bounded costs.
    IfOk-weaker c.cheapest.result _ _
    (tells_cheapest w right profile text c.args.expression.now is cost)
    (c.cheapest.ensures cost bounded
    (λ terms are. costs ∙ ap (map cost)
    (sym (tells_terms w right profile text c.args.expression.now is terms are))))
