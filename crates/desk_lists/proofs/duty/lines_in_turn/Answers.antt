use Rattle.std.proofs.Common.{ap, sym, ◌∙◌}
use Rattle.desk_lists.specs.Duties.{duty_line, is_wanted}
use Rattle.desk_lists.proofs.Lists.{failing_more, passing_more}
use Rattle.desk_lists.proofs.duty.lines_in_turn.Goals as goal
use Rattle.desk_lists.proofs.duty.lines_in_turn.Goals.{then-is_wanted+in_ok-duty_line+in_ok-push, else-is_wanted}

pub loop-row-preserved : goal.loop-row-preserved
loop-row-preserved c =
    let f = duty_line c.args.snapshot.now c.args.titles.now in
    let p = is_wanted c.args.snapshot.now c.args.wanted.now in
    let rows = c.as_slice-row-items.result.now in
    elim c.if-is_wanted.branch [
      | then-is_wanted+in_ok-duty_line+in_ok-push w ↦
          ap (λ v. v.items) w.lines-is
          ∙ passing_more f p rows c.loop-row.row-index c.row-item.result c.loop-row-test.true
          c.row-item.is c.loop-row.lines.items
          c.loop-row.invariant w.push.new.self.items w.in_ok-duty_line.field-0
          (sym c.is_wanted.ensures ∙ w.if-is_wanted.true)
          w.in_ok-duty_line.ensures w.in_ok-push.ensures.items
      | else-is_wanted w ↦
          ap (λ v. v.items) w.lines-is
          ∙ failing_more f p rows c.loop-row.row-index c.row-item.result c.loop-row-test.true
          c.row-item.is c.loop-row.lines.items
          c.loop-row.invariant (sym c.is_wanted.ensures ∙ w.if-is_wanted.false)
    ]
