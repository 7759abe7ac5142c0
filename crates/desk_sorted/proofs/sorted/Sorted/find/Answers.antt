use Rattle.std.proofs.Common.{ap, ◌∙◌}
use Rattle.std.specs.Prelude.{slice_get}
use Rattle.desk_base.proofs.Lists.{first_found}
use Rattle.desk_sorted.proofs.sorted.Sorted.find.Goals as goal

pub returns : goal.returns
returns g c = c.first.ensures.value
    ∙ (ap (λ xs. slice_get xs 0) c.run.ensures
    ∙ first_found (g.K.Sought.is_at c.args.key.now) c.args.self.now.rows.items)
