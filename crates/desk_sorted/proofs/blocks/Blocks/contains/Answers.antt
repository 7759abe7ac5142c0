use Rattle.std.proofs.Common.{◌∙◌, ap}
use Rattle.std.specs.Prelude.{is_some}
use Rattle.desk_sorted.specs.Blocks.{rows_in}
use Rattle.desk_sorted.proofs.Walking.{find_any, some_copied}
use Rattle.desk_sorted.proofs.blocks.Blocks.contains.Goals as goal

pub returns : goal.returns
returns g c =
    c.is_some.ensures ∙ (some_copied c.find.result
    ∙ (ap is_some c.find.ensures ∙ find_any (g.K.Sought.is_at c.args.key.now)
    (rows_in c.args.self.now.blocks.items)))
