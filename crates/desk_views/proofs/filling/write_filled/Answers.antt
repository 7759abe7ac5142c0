use Rattle.std.proofs.Common.{sym}
use Rattle.desk_views.proofs.FillingLemmas.{bill_written, line_written}
use Rattle.desk_views.proofs.filling.write_filled.Goals as goal

pub returns-in-Ok-clause-done : goal.returns-in-Ok-clause-done
returns-in-Ok-clause-done g c = bill_written c.args.filling.fills.now c.args.filling.style
    (g.W.Write.contents c.args.writer.now) (g.W.Write.contents c.write_bill.new.writer)
    c.args.outcome c.in-Ok.bill c.write_bill.result (sym c.in-Ok.ensures)
    c.write_bill.ensures.told

pub returns-in-Err-clause-done : goal.returns-in-Err-clause-done
returns-in-Err-clause-done g c = line_written c.args.filling.fills.now c.args.filling.style
    (g.W.Write.contents c.args.writer.now) (g.W.Write.contents c.tell-told.new.writer)
    c.args.outcome c.in-Err.other c.tell-told.result (sym c.in-Err.ensures)
    c.tell-told.ensures.done
