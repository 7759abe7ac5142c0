use Rattle.std.proofs.Common.{[], ◌∷◌, map}
use Rattle.desk_lists.specs.Cells.{cell_text}
use Rattle.desk_lists.proofs.Lists.{added_more, whole}
use Rattle.desk_answers.proofs.tables.table_of.Goals as goal

pub loop-row-preserved : goal.loop-row-preserved
loop-row-preserved g c =
    added_more g.R.Row.cells c.args.rows.now c.loop-row.row-index c.row-item.result
    (map cell_text c.args.names.now ∷ []) c.loop-row.table.items
    c.push-in-loop-row.new.self.items c.in_ok-row.field-0 c.loop-row-test.true c.row-item.is
    c.loop-row.invariant c.in_ok-row.ensures
    c.in_ok-push-2.ensures.items

pub returns : goal.returns
returns g c =
    whole (λ rows. map cell_text c.args.names.now ∷ map g.R.Row.cells rows) c.args.rows.now
    c.loop-row.row-index c.loop-row.table.items
    c.loop-row-test.false c.loop-row.invariant
