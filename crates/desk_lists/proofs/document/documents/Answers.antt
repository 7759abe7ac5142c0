use Rattle.desk_lists.specs.Documents.{IsDocumentLine}
use Rattle.desk_lists.proofs.Lists.{zipped_more}
use Rattle.desk_lists.proofs.document.documents.Goals as goal

pub loop-row-preserved : goal.loop-row-preserved
loop-row-preserved c = λ reads are.
    zipped_more (IsDocumentLine reads c.args.snapshot.now) c.as_slice-row-items.result.now
    c.loop-row.row-index c.row-item.result
    c.loop-row.lines.items c.push.new.self.items c.in_ok-document_line.field-0 c.loop-row-test.true
    c.row-item.is
    (c.loop-row.invariant reads are) (c.in_ok-document_line.ensures reads are)
    c.in_ok-push.ensures.items
