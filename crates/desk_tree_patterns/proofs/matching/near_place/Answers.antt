use Rattle.std.proofs.Common.{arith}
use Rattle.memchr.specs.Find.{OccursAt}
use Rattle.desk_tree_patterns.proofs.PlaceLemmas.{none_upto, not_started, started}
use Rattle.desk_tree_patterns.proofs.matching.near_place.Goals as goal

pub loop-at-preserved : goal.loop-at-preserved
loop-at-preserved c =
    let run = c.args.run.now in
    let text = c.args.text.now in
    let at = c.loop-at.at in
    let old = c.loop-at.invariant in
    let test = c.loop-at-test.true in
    record {
      near = old.near;
      within = omega arith;
      none = none_upto (OccursAt text run) at old.none
          (not_started run text c.split_at.result.1.now at c.starts_with.result
          c.split_at.ensures.back c.starts_with.ensures.value c.if-starts_with.false);
    }

pub returns-then-starts_with-clause-found : goal.returns-then-starts_with-clause-found
returns-then-starts_with-clause-found c =
    let at = c.loop-at.at in
    let near = c.loop-at.invariant.near in
    let test = c.loop-at-test.true in
    let most = c.requires in
    λ lt. started c.args.run.now c.args.text.now c.split_at.result.1.now at c.starts_with.result
    (omega arith) c.split_at.ensures.back c.starts_with.ensures.value c.if-starts_with.true

pub returns-then-at-end-clause-none : goal.returns-then-at-end-clause-none
returns-then-at-end-clause-none c = λ k lt.
    let same = c.if-at-end.true in
    c.loop-at.invariant.none k (omega arith)
