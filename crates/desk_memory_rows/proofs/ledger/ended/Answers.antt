use Rattle.std.proofs.Common.{◌∙◌, ◌+◌, ◌++◌, ◌∷◌, [], ap, sym, List, drop}
use Rattle.desk_model.specs.declared.row.DutyRow.{DutyRow}
use Rattle.desk_model.specs.declared.row.Standing.{Standing}
use Rattle.desk_memory_rows.specs.Ledgers.{all_of, ends_in, standing_in}
use Rattle.desk_memory_rows.proofs.Ending.{split_at, found_more, found_same}
use Rattle.desk_memory_rows.proofs.ledger.ended.Goals as goal
use Rattle.desk_memory_rows.proofs.ledger.ended.Goals.{then-ends+in_ok-push, else-ends}

pub loop-row-preserved : goal.loop-row-preserved
loop-row-preserved c =
    let changes = all_of c.args.groups.now in
    let rows : List DutyRow = c.args.rows.now in
    let split = split_at rows c.loop-row.row-index c.row-item.result c.loop-row-test.true
    c.row-item.is in
    elim c.if-ends.branch [
      | then-ends+in_ok-push w ↦ found_more (standing_in changes) (ends_in changes c.args.day)
          c.loop-row.found.items c.if-ends.found.items c.row-item.result _
          (drop (c.loop-row.row-index + 1) rows) _ split
          (sym c.ends.ensures ∙ w.if-ends.true)
          (ap (λ v. v.items) w.found-is
          ∙ (w.in_ok-push.ensures.items
          ∙ ap (λ (s : Standing). c.loop-row.found.items ++ s ∷ []) w.standing.ensures))
          c.loop-row.invariant
      | else-ends w ↦ found_same (standing_in changes) (ends_in changes c.args.day)
          c.loop-row.found.items c.if-ends.found.items c.row-item.result _
          (drop (c.loop-row.row-index + 1) rows) _ split
          (sym c.ends.ensures ∙ w.if-ends.false)
          (ap (λ v. v.items) w.found-is)
          c.loop-row.invariant
    ]
