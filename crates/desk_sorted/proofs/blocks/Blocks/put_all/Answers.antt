use Rattle.std.proofs.Common.{◌∙◌, ap}
use Rattle.desk_base.proofs.Lists.{filter-true}
use Rattle.desk_model.specs.Keys.{below_by}
use Rattle.desk_model.specs.Lists.{put_all}
use Rattle.desk_sorted.specs.Blocks.{rows_in}
use Rattle.desk_sorted.proofs.blocks.Blocks.put_all.Goals as goal

pub returns : goal.returns
returns g c =
    c.replace.ensures ∙ ap (put_all (below_by g.R.Keyed.order) c.args.more.items)
    (filter-true (rows_in c.args.self.now.blocks.items))
