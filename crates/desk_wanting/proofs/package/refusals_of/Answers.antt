use Rattle.std.proofs.Common.{◌++◌, ap, refl}
use Rattle.std.specs.List.{flat_map}
use Rattle.desk_access.proofs.Chains.{same_self, same_then_same}
use Rattle.desk_history.specs.FromTables.{refusals_found}
use Rattle.desk_wanting.proofs.Lists.{ended}
use Rattle.desk_wanting.proofs.SoFar.{fails, list_more}
use Rattle.desk_wanting.proofs.package.refusals_of.Goals as goal

pub loop-row-init : goal.loop-row-init
loop-row-init g c = record {
  same = same_self _;
  found = λ w right h t held. ap (λ found. found
      ++ flat_map (refusals_found w t c.args.release.now c.args.form.now) c.args.packages.now)
      c.new-refusals.ensures.items;
}

pub loop-row-preserved : goal.loop-row-preserved
loop-row-preserved g c =
    let before = c.loop-row.invariant in
    let one = c.in_ok-add_package_refusals.ensures in
    record {
      same = same_then_same _ _ _ before.same one.kept;
      found = λ w right.
          list_more (λ t. refusals_found w t c.args.release.now c.args.form.now) c.args.packages.now
          c.loop-row.row-index c.row-item.result
          c.loop-row.refusals.items c.add_package_refusals.new.refusals.items
          (λ t. flat_map (refusals_found w t c.args.release.now c.args.form.now)
          c.args.packages.now)
          _ _ _ c.loop-row-test.true c.row-item.is before.same one.kept (one.found w right)
          (before.found w right);
    }

pub returns-in_err-add_package_refusals-clause-kept : goal.returns-in_err-add_package_refusals-clause-kept
returns-in_err-add_package_refusals-clause-kept g c =
    fails _ _ _ c.from_residual.result c.from_residual.ensures.0 c.loop-row.invariant.same
    c.in_err-add_package_refusals.ensures.kept

pub returns-clause-found : goal.returns-clause-found
returns-clause-found g c = λ w right h t held.
    let told = flat_map (refusals_found w t c.args.release.now c.args.form.now) in
    ended told c.args.packages.now c.loop-row.row-index c.loop-row.refusals.items
    (told c.args.packages.now) c.loop-row-test.false refl
    (c.loop-row.invariant.found w right h t held)
