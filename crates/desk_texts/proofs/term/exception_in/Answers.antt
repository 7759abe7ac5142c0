use Rattle.std.proofs.Common.{◌∙◌, ap}
use Rattle.desk_texts.specs.Terms.{behind_with}
use Rattle.desk_texts.proofs.Terms.{with_off}
use Rattle.desk_texts.proofs.term.exception_in.Goals as goal

pub returns : goal.returns
returns c =
    with_off c.split_word.result.1.now c.behind.result c.behind.ensures.none c.behind.ensures.some
    c.behind.ensures.rest ∙ ap behind_with c.split_word.ensures.after
