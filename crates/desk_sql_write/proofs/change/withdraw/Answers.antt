use Rattle.std.proofs.Common.{ℕ, List, filter, refl}
use Rattle.desk_model.specs.Keys.{is_release}
use Rattle.desk_model.specs.Lists.{updated}
use Rattle.desk_model.specs.Tables.{is_choice_elsewhere, moved_by, withdrawn_release}
use Rattle.desk_model.specs.declared.row.ChangeRow.{ChangeRow}
use Rattle.desk_sql_write.proofs.Extending.{ChangesOne, never_changes, next_changes, steps_extend}
use Rattle.desk_sql_write.proofs.change.withdraw.Goals as goal

releases : (release : List ℕ) (changes : List ChangeRow) → ChangesOne
    (λ t. record t { releases = updated (is_release release) withdrawn_release t.releases })
    (λ t. record t {
      choice = filter (is_choice_elsewhere release) t.choice;
      duty = moved_by changes t.duty;
    })
releases release changes = record { tree = 14; same = λ t. refl }

pub returns-clause-makes : goal.returns-clause-makes
returns-clause-makes g c =
    next_changes (releases c.args.release.now c.args.changes.now) (steps_extend c.args.changes.now)
    c.in_ok-withdraw_release.ensures.sets c.clear.ensures.makes

pub returns-in_err-withdraw_release-clause-makes : goal.returns-in_err-withdraw_release-clause-makes
returns-in_err-withdraw_release-clause-makes g c =
    never_changes (releases c.args.release.now c.args.changes.now) (steps_extend c.args.changes.now)
    c.from_residual.ensures.1 c.in_err-withdraw_release.ensures.sets
