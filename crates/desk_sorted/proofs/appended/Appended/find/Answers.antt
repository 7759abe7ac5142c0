use Rattle.std.proofs.Common.{◌∙◌}
use Rattle.std.specs.Ordering.{is_eq}
use Rattle.desk_sorted.proofs.Placing.{found_among}
use Rattle.desk_sorted.proofs.appended.Appended.find.Goals as goal

pub returns : goal.returns
returns g c =
    let key = c.args.key.now in
    c.first_of.ensures ∙ found_among (g.K.Sought.is_at key) (λ row. is_eq (g.K.Sought.side key row))
    (g.met.K.Sought.meets key) c.among.result.now c.args.self.now.rows.items c.among.ensures
