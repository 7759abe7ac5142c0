use Rattle.std.proofs.Common.{[], ◌∷◌, map}
use Rattle.desk_lists.specs.Cells.{cell_text}
use Rattle.desk_lists.proofs.Lists.{added_more, whole}
use Rattle.desk_lists.proofs.cells.table_of.Goals as goal

pub loop-line-preserved : goal.loop-line-preserved
loop-line-preserved g c =
    added_more g.L.Line.cells c.args.lines.now c.loop-line.line-index c.line-item.result
    (map cell_text c.args.names.now ∷ []) c.loop-line.rows.items
    c.push-in-loop-line.new.self.items c.in_ok-row.field-0 c.loop-line-test.true c.line-item.is
    c.loop-line.invariant c.in_ok-row.ensures
    c.in_ok-push-2.ensures.items

pub returns : goal.returns
returns g c =
    whole (λ lines. map cell_text c.args.names.now ∷ map g.L.Line.cells lines) c.args.lines.now
    c.loop-line.line-index c.loop-line.rows.items
    c.loop-line-test.false c.loop-line.invariant
