use Rattle.std.proofs.Common.{List, refl}
use Rattle.std.specs.Prelude.{filter, map}
use Rattle.desk_model.specs.declared.row.AttachedRow.{AttachedRow}
use Rattle.desk_access.proofs.Chains.{same_then_same}
use Rattle.desk_wanting.specs.Idle.{ships_nothing}
use Rattle.desk_wanting.proofs.Lists.{ended, filter_step}
use Rattle.desk_wanting.proofs.SoFar.{fails}
use Rattle.desk_wanting.proofs.idle.idle_among.Goals as goal

pub loop-row-preserved : goal.loop-row-preserved
loop-row-preserved g c =
    let one = c.in_ok-nothing.ensures in
    record {
      same = same_then_same _ _ _ c.loop-row.invariant.same one.kept;
      found = λ h t held.
          filter_step (ships_nothing t.packages) (λ (row : AttachedRow). row.document)
          c.args.attached.now c.loop-row.row-index c.row-item.result
          c.loop-row.numbers.items c.add_number.new.numbers.items
          (filter (ships_nothing t.packages)
          (map (λ (row : AttachedRow). row.document) c.args.attached.now)) c.in_ok-nothing.nothing
          c.loop-row-test.true c.row-item.is
          (one.found h t (c.loop-row.invariant.same.kept.spared.holds t held))
          c.in_ok-add_number.ensures
          (c.loop-row.invariant.found (one.kept.kept.spared.honest h) t held);
    }

pub returns-in_err-nothing-clause-kept : goal.returns-in_err-nothing-clause-kept
returns-in_err-nothing-clause-kept g c =
    fails _ _ _ c.from_residual.result c.from_residual.ensures.0 c.loop-row.invariant.same
    c.in_err-nothing.ensures.kept

pub returns-in_err-add_number-clause-kept : goal.returns-in_err-add_number-clause-kept
returns-in_err-add_number-clause-kept g c =
    fails _ _ _ c.from_residual-in_err-add_number.result c.from_residual-in_err-add_number.ensures.0
    c.loop-row.invariant.same c.in_ok-nothing.ensures.kept.kept

pub returns-clause-found : goal.returns-clause-found
returns-clause-found g c = λ h t held.
    let idle = λ (rows : List AttachedRow). filter (ships_nothing t.packages)
    (map (λ (row : AttachedRow). row.document) rows) in
    ended idle c.args.attached.now c.loop-row.row-index c.loop-row.numbers.items
    (idle c.args.attached.now) c.loop-row-test.false refl
    (c.loop-row.invariant.found h t held)
