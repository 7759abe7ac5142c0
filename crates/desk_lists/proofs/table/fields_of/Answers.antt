use Rattle.std.proofs.Common.{List, ℕ, Bor, rules, take_all, ◌∙◌}
use Rattle.desk_lists.proofs.Lists.{shown_more}
use Rattle.desk_lists.proofs.table.fields_of.Goals as goal

pub loop-cell-preserved : goal.loop-cell-preserved
loop-cell-preserved c =
    shown_more (λ (field : Bor (List ℕ)). field.now) c.args.cells.now c.loop-cell.cell-index
    c.cell-item.result c.loop-cell.fields.items
    c.push.new.self.items c.as_bytes.result c.loop-cell-test.true c.cell-item.is
    c.loop-cell.invariant (search rules) c.in_ok-push.ensures.items

pub returns : goal.returns
returns c = c.loop-cell.invariant
    ∙ take_all c.loop-cell.cell-index c.args.cells.now c.loop-cell-test.false
