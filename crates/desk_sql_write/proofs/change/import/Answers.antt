use Rattle.std.proofs.Common.{arith}
use Rattle.desk_sql_write.proofs.Extending.{never_extends, then_extends, parts_extend}
use Rattle.desk_sql_write.proofs.change.import.Goals as goal

pub returns-clause-adds : goal.returns-clause-adds
returns-clause-adds g c =
    then_extends (parts_extend c.args.packages.now c.args.references.now)
    c.in_ok-add_read_document.ensures.adds c.add_parts.ensures.adds

pub returns-in_err-add_read_document-clause-adds : goal.returns-in_err-add_read_document-clause-adds
returns-in_err-add_read_document-clause-adds g c =
    never_extends (parts_extend c.args.packages.now c.args.references.now) (omega arith)
    c.from_residual.ensures.1 c.in_err-add_read_document.ensures.adds
