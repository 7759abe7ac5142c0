use Rattle.std.proofs.Common.{◌≡◌, Ok, ap, ◌∙◌}
use Rattle.std.specs.Prelude.{◌==◌}
use Rattle.std.specs.List.{list_any}
use Rattle.desk_model.specs.Keys.{is_attachment}
use Rattle.desk_model.specs.declared.row.AttachedRow.{AttachedRow}
use Rattle.desk_sql_lookup.proofs.LookUps.{then_tells}
use Rattle.desk_sql_layout.proofs.Loops.{any_attached}
use Rattle.desk_sql_lookup.proofs.releases.is_attached.Goals as goal

pub returns : goal.returns
returns g c =
    let release = c.args.release.now in
    let document = c.args.document in
    then_tells g.S.Store c.args.conn.now c.attached.new.conn c.in_ok-rows.ensures (λ t. Unit {0})
    (Ok c.is_among.result) (λ found t. found ≡ list_any (is_attachment release document) t.attached)
    (λ clean t held. c.is_among.ensures
    ∙ ap (list_any (λ (row : AttachedRow). row.document == document))
    (c.deref.ensures.value ∙ c.in_ok-rows.ensures.found clean t held)
    ∙ any_attached release document t.attached)
    tt
