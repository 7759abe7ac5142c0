use Rattle.desk_audit_texts.proofs.Alike.{told_alike}
use Rattle.desk_audit_texts.proofs.held.is_choice_after.Goals as goal

pub returns-in-Some : goal.returns-in-Some
returns-in-Some g c = λ w right given.
    told_alike w c.args.snapshot.now c.args.told c.in-Some.before c.args.row.now c.is_alike.result
    c.in-Some.is c.is_alike.ensures c.if-is_alike.true given
