use Rattle.std.proofs.Common.{◌∙◌, ap}
use Rattle.desk_tokens.proofs.PlusLemmas.{plus_off}
use Rattle.desk_tokens.proofs.word.without_plus.Goals as goal

pub returns : goal.returns
returns c = ap (λ id. id.now) c.unwrap_or.ensures
    ∙ plus_off c.args.word c.strip_suffix.result c.strip_suffix.ensures.cases
