use Rattle.std.proofs.Common.{◌≡◌, ◌∙◌, sym, ℕ, List, drop, ◌+◌, ◌∷◌}
use Rattle.desk_base.proofs.Lists.{drop_item}
use Rattle.desk_model.specs.Raised.{frozen_for, owed_for}
use Rattle.desk_model.specs.declared.row.PackageRow.{PackageRow}
use Rattle.desk_history.specs.FromTables.{choice_found, rules_found}
use Rattle.desk_access.proofs.Chains.{same_then_same}
use Rattle.desk_duties.proofs.Walking.{more_of, walk_fails, packages_on, PackagesOn}
use Rattle.desk_duties.proofs.gathering.freeze_packages.Goals as goal

pub returns-in-Some-clause-gathered : goal.returns-in-Some-clause-gathered
returns-in-Some-clause-gathered g c =
    let form : List ℕ = c.args.freezing.now.form.now in
    let r : List ℕ = c.args.freezing.now.release.now in
    let ps : List PackageRow = c.args.packages.now in
    let i : ℕ = c.loop-row.row-index in
    let p : PackageRow = c.row-item.result in
    let split : drop i ps ≡ p ∷ drop (i + 1) ps =
    drop_item ps i p c.loop-row-test.true c.row-item.is in
    let one = c.in_ok-refusal.ensures in
    λ w right h t held.
    sym (c.loop-row.invariant.gathered w right (one.kept.kept.spared.honest h) t held).walked
    ∙ walk_fails w t form r (drop i ps) (drop (i + 1) ps) p c.loop-row.gathered
    c.freeze_package.new.gathered c.in_ok-refusal.field-0 c.in-Some.refusal split
    (one.gathered w right h t (c.loop-row.invariant.same.kept.spared.holds t held)) c.in-Some.is

pub loop-row-preserved : goal.loop-row-preserved
loop-row-preserved g c =
    let form : List ℕ = c.args.freezing.now.form.now in
    let r : List ℕ = c.args.freezing.now.release.now in
    let ps : List PackageRow = c.args.packages.now in
    let i : ℕ = c.loop-row.row-index in
    let p : PackageRow = c.row-item.result in
    let rest : List PackageRow = drop (i + 1) ps in
    let split : drop i ps ≡ p ∷ rest = drop_item ps i p c.loop-row-test.true c.row-item.is in
    let one = c.in_ok-refusal.ensures in
    record {
      same = same_then_same _ _ _ c.loop-row.invariant.same one.kept;
      gathered = λ w right h t held.
          let before = c.loop-row.invariant.gathered w right (one.kept.kept.spared.honest h) t
          held in
          let on : PackagesOn w t form r (drop i
          ps) rest p c.loop-row.gathered c.freeze_package.new.gathered =
          packages_on w t form r (drop i ps) rest p c.loop-row.gathered
          c.freeze_package.new.gathered c.in_ok-refusal.field-0 split
          (one.gathered w right h t (c.loop-row.invariant.same.kept.spared.holds t held))
          c.in_default.is in
          record {
            walked = sym on.walked ∙ before.walked;
            frozen = more_of c.loop-row.gathered.frozen.items
                c.freeze_package.new.gathered.frozen.items _
                (frozen_for w t.adoption (rules_found t) form r (choice_found t r) (drop i ps))
                (frozen_for w t.adoption (rules_found t) form r (choice_found t r) rest) _
                on.new_frozen on.frozen before.frozen;
            owed = more_of c.loop-row.gathered.owed.items c.freeze_package.new.gathered.owed.items _
                (owed_for w t.adoption (rules_found t) form r (choice_found t r) (drop i ps))
                (owed_for w t.adoption (rules_found t) form r (choice_found t r) rest) _ on.new_owed
                on.owed before.owed;
          };
    }
