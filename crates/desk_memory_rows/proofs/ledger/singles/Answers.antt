use Rattle.std.proofs.Common.{◌∙◌, ◌++◌, ◌∷◌, [], ap, List}
use Rattle.desk_model.specs.declared.row.ChangeRow.{ChangeRow}
use Rattle.desk_memory_rows.proofs.Turns.{singles_more}
use Rattle.desk_memory_rows.proofs.ledger.singles.Goals as goal

pub loop-change-preserved : goal.loop-change-preserved
loop-change-preserved c = λ first e.
    singles_more first c.loop-change.yielded c.in-Some.change c.push.new.self
    c.loop-change.groups.items c.push-in-loop-change.new.self.items (c.loop-change.invariant first)
    (c.in_ok-push.ensures.ok ∙ ap (λ (g : List ChangeRow). g ++ c.in-Some.change ∷ [])
    c.new-group.ensures) c.in_ok-push-2.ensures.items e
