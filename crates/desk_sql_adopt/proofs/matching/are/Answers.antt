use Rattle.std.proofs.Common.{rules}
use Rattle.std.proofs.lemmas.Slice.Zip.{zip_turn}
use Rattle.desk_sql_adopt.proofs.Turns.{more_alike}
use Rattle.desk_sql_adopt.proofs.matching.are.Goals as goal

pub loop-item-preserved : goal.loop-item-preserved
loop-item-preserved g c =
    let here = zip_turn c.args.items.now c.args.forms.now c.loop-item.yielded
    c.into_iter-item-iterator.result c.loop-item.item-iterator c.next.new.self c.next.result
    (search rules) (search rules) c.loop-item.yielded_by (c.in-Some.item, c.in-Some.form)
    c.in-Some.is c.next.ensures.steps in
    more_alike g.F.Form.declared c.args.items.now c.args.forms.now c.loop-item.yielded
    (c.in-Some.item, c.in-Some.form) c.in-Some.item.now c.in-Some.form.now here.0 here.1
    (here.2 c.in-Some.item.now) (here.3 c.in-Some.form.now) (c.is.ensures.0 c.if-not-is.false)
    c.loop-item.invariant
