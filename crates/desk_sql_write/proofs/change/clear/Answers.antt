use Rattle.std.proofs.Common.{ℕ, List, filter, refl}
use Rattle.desk_model.specs.Tables.{is_choice_elsewhere, moved_by}
use Rattle.desk_model.specs.declared.row.ChangeRow.{ChangeRow}
use Rattle.desk_sql_write.proofs.Extending.{ChangesOne, never_changes, next_changes, steps_extend}
use Rattle.desk_sql_write.proofs.change.clear.Goals as goal

choices : (release : List ℕ) (changes : List ChangeRow) → ChangesOne
    (λ t. record t { choice = filter (is_choice_elsewhere release) t.choice })
    (λ t. record t { duty = moved_by changes t.duty })
choices release changes = record { tree = 19; same = λ t. refl }

pub returns-clause-makes : goal.returns-clause-makes
returns-clause-makes g c =
    next_changes (choices c.args.release.now c.args.changes.now) (steps_extend c.args.changes.now)
    c.in_ok-drop_choices_in.ensures.drops c.move_duties.ensures.makes

pub returns-in_err-drop_choices_in-clause-makes : goal.returns-in_err-drop_choices_in-clause-makes
returns-in_err-drop_choices_in-clause-makes g c =
    never_changes (choices c.args.release.now c.args.changes.now) (steps_extend c.args.changes.now)
    c.from_residual.ensures.1 c.in_err-drop_choices_in.ensures.drops
