use Rattle.std.proofs.Common.{◌≡◌, length, suc, ap, arith}
use Rattle.desk_tree_infos.proofs.WayLemmas.{shared-start, shared-slash, shared-other, shared-end}
use Rattle.desk_tree_infos.proofs.trail.shared_folders.Goals as goal

pub loop-byte-init : goal.loop-byte-init
loop-byte-init c = record {
  shares = shared-start c.args.before.now c.args.path.now;
  room = omega arith;
  within = omega arith;
}

pub loop-byte-preserved-then-byte-eq47 : goal.loop-byte-preserved-then-byte-eq47
loop-byte-preserved-then-byte-eq47 c =
    let size : length c.loop-byte.new.now ≡ suc (length c.in-Some.after.now) =
    ap length c.in-Some.ensures.other in
    let room = c.loop-byte.invariant.room in
    record {
      shares = shared-slash c.args.before.now c.args.path.now c.loop-byte.old.now
          c.loop-byte.new.now c.in-Some.behind.now c.in-Some.after.now c.loop-byte.rest.now
          c.in-Some.byte c.loop-byte.folders
          c.in-Some.ensures.one c.in-Some.ensures.other c.loop-byte.invariant.shares
          c.if-byte-eq47.true;
      room = omega (arith, size, room);
      within = omega (arith, size, room);
    }

pub loop-byte-preserved : goal.loop-byte-preserved
loop-byte-preserved c =
    let size : length c.loop-byte.new.now ≡ suc (length c.in-Some.after.now) =
    ap length c.in-Some.ensures.other in
    let room = c.loop-byte.invariant.room in
    record {
      shares = shared-other c.args.before.now c.args.path.now c.loop-byte.old.now
          c.loop-byte.new.now c.in-Some.behind.now c.in-Some.after.now c.loop-byte.rest.now
          c.in-Some.byte c.loop-byte.folders
          c.in-Some.ensures.one c.in-Some.ensures.other c.loop-byte.invariant.shares
          c.if-byte-eq47.false;
      room = omega (arith, size, room);
      within = c.loop-byte.invariant.within;
    }

pub returns-clause-shares : goal.returns-clause-shares
returns-clause-shares c = shared-end c.args.before.now c.args.path.now c.loop-byte.old.now
    c.loop-byte.new.now c.loop-byte.rest.now c.loop-byte.folders c.loop-byte.invariant.shares
