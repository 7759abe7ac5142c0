use Rattle.std.proofs.Common.{◌≡◌, ◌∙◌, sym, ap, subst, ℕ, List, length, true, refl, vec_len, arith}
use Rattle.std.specs.Prelude.{◌==◌}
use Rattle.desk_model.specs.History.{attached_to}
use Rattle.desk_model.specs.declared.row.AttachedRow.{AttachedRow}
use Rattle.desk_model.specs.declared.row.PackageRow.{PackageRow}
use Rattle.desk_history.specs.FromTables.{froze_as, freeze_change_found}
use Rattle.desk_duties.specs.Freezing.{freeze_fits, freeze_open_found}
use Rattle.desk_access.specs.Plans.{IsPlan, IsSound}
use Rattle.desk_access.proofs.Chains.{same_then_same}
use Rattle.desk_access.proofs.Chains.{plans_after, plan_after}
use Rattle.desk_duties.proofs.Freezes.{nothing_attached, freeze_refused, freeze_fitting, Fits}
use Rattle.desk_duties.proofs.Freezes.{ships_some}
use Rattle.desk_duties.proofs.freeze.freeze_open.Goals as goal

pub returns-then-is_empty-clause-plan : goal.returns-then-is_empty-clause-plan
returns-then-is_empty-clause-plan g c = λ w right h t held.
    let r : List ℕ = c.args.release.now in
    let are : c.in_ok-attached.attached.items ≡ attached_to t.attached r =
    c.in_ok-attached.ensures.found h t held ∙ ap (attached_to t.attached) c.as_str.ensures in
    let len : length c.in_ok-attached.attached.items ≡ vec_len c.in_ok-attached.attached =
    omega (arith, c.in_ok-attached.attached.ok) in
    let none : (length (attached_to t.attached r) == 0) ≡ true =
    ap (λ (xs : List AttachedRow). length xs == 0) (sym are)
    ∙ (ap (λ (n : ℕ). n == 0) len ∙ sym c.if-is_empty.ensures) in
    subst (IsPlan (freeze_open_found w t r c.args.form.now)
    (freeze_change_found w t r c.args.form.now c.args.day)) (sym c.refuse.ensures)
    (nothing_attached w t r c.args.form.now none)

pub returns-in-Some-clause-kept : goal.returns-in-Some-clause-kept
returns-in-Some-clause-kept g c = (
  same_then_same _ _ _ c.in_ok-attached.ensures.kept
      (same_then_same _ _ _ c.in_ok-packages.ensures.kept c.in_ok-refusal.ensures.kept),
  subst IsSound (sym c.refuse-in-Some.ensures) refl,
)

pub returns-in-Some-clause-plan : goal.returns-in-Some-clause-plan
returns-in-Some-clause-plan g c = λ w right h t held.
    let one = c.in_ok-attached.ensures in
    let two = c.in_ok-packages.ensures in
    let three = c.in_ok-refusal.ensures in
    let r : List ℕ = c.args.release.now in
    let h2 = three.kept.kept.spared.honest h in
    let t1 = one.kept.kept.spared.holds t held in
    let ps : List PackageRow = c.as_slice-2.result.now in
    let ships = ships_some t r c.as_slice.result.now ps
    (c.as_slice.ensures.value ∙ (one.found (two.kept.kept.spared.honest h2) t held
    ∙ ap (attached_to t.attached) c.as_str.ensures))
    (ap (λ (n : ℕ). n == 0) c.as_slice.ensures.len ∙ sym c.if-is_empty.ensures)
    (c.as_slice-2.ensures.value ∙ two.found h2 t t1) in
    subst (IsPlan (freeze_open_found w t r c.args.form.now)
    (freeze_change_found w t r c.args.form.now c.args.day)) (sym c.refuse-in-Some.ensures)
    (freeze_refused w t r c.args.form.now ps
    (record { frozen = c.new.result; owed = c.new-2.result }) c.freeze_packages.new.gathered
    c.in_ok-refusal.field-0 c.in-Some.refusal ships.0 ships.1
    (three.gathered w right h t (two.kept.kept.spared.holds t t1)) c.in-Some.is)

pub returns-clause-plan : goal.returns-clause-plan
returns-clause-plan g c = λ w right.
    let one = c.in_ok-attached.ensures in
    let two = c.in_ok-packages.ensures in
    let three = c.in_ok-refusal.ensures in
    let r : List ℕ = c.args.release.now in
    let form : List ℕ = c.args.form.now in
    let new = c.freeze_packages.new.gathered in
    plan_after (g.S.Store.seen c.args.store.now) (g.S.Store.seen c.freeze_packages.new.store)
    (g.S.Store.seen c.freeze_gathered.new.store)
    (λ t. freeze_fits (length t.duty) (length new.owed.items)) (λ t. freeze_open_found w t r form)
    (λ t. froze_as t r c.args.day new.frozen.items new.owed.items)
    (λ t. freeze_change_found w t r form c.args.day)
    c.freeze_gathered.result
    (same_then_same _ _ _ one.kept (same_then_same _ _ _ two.kept three.kept))
    c.freeze_gathered.ensures.kept
    (λ h t held.
    let h2 = three.kept.kept.spared.honest h in
    let t1 = one.kept.kept.spared.holds t held in
    let ps : List PackageRow = c.as_slice-2.result.now in
    let ships = ships_some t r c.as_slice.result.now ps
    (c.as_slice.ensures.value ∙ (one.found (two.kept.kept.spared.honest h2) t held
    ∙ ap (attached_to t.attached) c.as_str.ensures))
    (ap (λ (n : ℕ). n == 0) c.as_slice.ensures.len ∙ sym c.if-is_empty.ensures)
    (c.as_slice-2.ensures.value ∙ two.found h2 t t1) in
    let fits : Fits w t r form c.args.day new =
    freeze_fitting w t r form c.args.day ps
    (record { frozen = c.new.result; owed = c.new-2.result }) new c.in_ok-refusal.field-0
    ships.0 ships.1 c.new.ensures.items c.new-2.ensures.items
    (three.gathered w right h t (two.kept.kept.spared.holds t t1)) c.in_default.is in
    (fits.answer, fits.rows))
    c.freeze_gathered.ensures.plan

pub returns-clause-kept : goal.returns-clause-kept
returns-clause-kept g c =
    plans_after (g.S.Store.seen c.args.store.now) (g.S.Store.seen c.freeze_packages.new.store)
    (g.S.Store.seen c.freeze_gathered.new.store) c.freeze_gathered.result
    (same_then_same _ _ _ c.in_ok-attached.ensures.kept
    (same_then_same _ _ _ c.in_ok-packages.ensures.kept c.in_ok-refusal.ensures.kept))
    c.freeze_gathered.ensures.kept
