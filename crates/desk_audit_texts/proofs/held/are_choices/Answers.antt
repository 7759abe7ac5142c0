use Rattle.std.proofs.Common.{◌≡◌, Bool}
use Rattle.std.specs.List.{list_all}
use Rattle.desk_model.specs.Readings.{Readings}
use Rattle.desk_snapshot.specs.Conditions.{is_choice}
use Rattle.desk_snapshot.specs.declared.rows.StoredChoice.{StoredChoice}
use Rattle.desk_audit_texts.proofs.Found.{all_behind, not_all, passes}
use Rattle.desk_audit_texts.proofs.held.are_choices.Goals as goal

pub returns-then-not-branch : goal.returns-then-not-branch
returns-then-not-branch g c = λ w right.
    let p : StoredChoice → Bool = is_choice w c.args.snapshot.now in
    not_all p c.as_slice-row-items.result.now c.loop-row.row-index c.row-item.result
    c.in_ok-is_choice_after.field-0 (list_all p c.args.snapshot.now.choice)
    c.loop-row-test.true c.row-item.is
    (c.in_ok-is_choice_after.ensures w right (c.loop-row.invariant.told w right))
    c.if-not-branch.true (c.loop-row.invariant.left w right)

pub loop-row-preserved : goal.loop-row-preserved
loop-row-preserved g c =
    let p : Readings → StoredChoice → Bool = λ w. is_choice w c.args.snapshot.now in
    let told : (w : Readings) → g.T.Texts.are_right w → c.in_ok-is_choice_after.field-0
    ≡ p w c.row-item.result =
    λ w right. c.in_ok-is_choice_after.ensures w right (c.loop-row.invariant.told w right) in
    record {
      told = λ w right. passes c.in_ok-is_choice_after.field-0 (p w c.row-item.result)
          (told w right) c.if-not-branch.false;
      left = λ w right.
          all_behind (p w) c.as_slice-row-items.result.now c.loop-row.row-index c.row-item.result
          c.in_ok-is_choice_after.field-0 (list_all (p w) c.args.snapshot.now.choice)
          c.loop-row-test.true c.row-item.is (told w right) c.if-not-branch.false
          (c.loop-row.invariant.left w right);
    }
