use Rattle.std.proofs.Common.{◌∙◌, ap, take}
use Rattle.std.proofs.lemmas.List.{take_min}
use Rattle.desk_looks.specs.Looks.{behind_blanks}
use Rattle.desk_looks.proofs.head.head_of.Goals as goal

pub returns : goal.returns
returns c =
    ap (λ n. take n c.behind_blanks-rest.result.now) c.min.ensures
    ∙ take_min 4096 c.behind_blanks-rest.result.now
    ∙ ap (take 4096) (c.behind_blanks-rest.ensures ∙ ap behind_blanks c.behind_mark.ensures)
