use Rattle.std.proofs.Common.{◌∙◌, sym}
use Rattle.desk_texts.proofs.standard.StandardTexts.is_licence.Goals as goal

pub returns : goal.returns
returns c =
    λ w right. c.is_licence.ensures ∙ sym (right.licence c.args.term.now)
