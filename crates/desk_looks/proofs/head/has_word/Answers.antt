use Rattle.std.proofs.Common.{◌∙◌}
use Rattle.desk_looks.proofs.Found.{found}
use Rattle.desk_looks.proofs.head.has_word.Goals as goal

pub returns : goal.returns
returns c = c.is_some.ensures
    ∙ found c.args.bytes.now c.args.word.now c.find.result c.find.ensures
