use Rattle.std.proofs.Common.{refl}
use Rattle.desk_model.specs.Tables.{withdrawn_release}
use Rattle.desk_memory.proofs.Releases.{release_changed, releases_ascend}
use Rattle.desk_memory.proofs.store.withdraw_release.Goals as goal

pub returns : goal.returns
returns c =
    release_changed c.args.name.now withdrawn_release c.args.releases.now.rows c.as_slice.result.now
    c.deref_mut.result.now c.withdraw_rows.new.rows c.run_of-run.result.start
    c.run_of-run.result.end c.run_of-run.ensures c.as_slice.ensures.value c.deref_mut.ensures.value
    c.withdraw_rows.ensures

pub invariant_of-releases : goal.invariant_of-releases
invariant_of-releases c = record {
  ascending =
      releases_ascend c.args.name.now withdrawn_release c.args.releases.now.rows
      c.as_slice.result.now c.deref_mut.result.now c.withdraw_rows.new.rows
      c.run_of-run.result.start c.run_of-run.result.end c.run_of-run.ensures
      c.as_slice.ensures.value c.deref_mut.ensures.value c.withdraw_rows.ensures
      (record { first = λ x y. refl; second = λ x y. refl }) c.args.releases.now.ascending;
}
