use Rattle.std.proofs.Common.{◌<◌, ◌≤◌, length, arith}
use Rattle.desk_alts.proofs.Inserting.{clears_removed, clears_passed, cleared_apart, cleared_exact, on_ok}
use Rattle.desk_alts.proofs.kept.Kept.insert.Goals as goal

pub loop-at-preserved-then-is_subset : goal.loop-at-preserved-then-is_subset
loop-at-preserved-then-is_subset c =
    let within : c.loop-at.at < length c.loop-at.self =
    omega (arith, c.loop-at-test.true, c.len.ensures) in
    clears_removed c.args.self.now c.loop-at.self c.remove.new.self c.args.mask c.get.result
    c.loop-at.at within c.get.ensures (c.is_subset.ensures.0 c.if-is_subset.true) c.remove.ensures
    c.loop-at.invariant

pub loop-at-preserved : goal.loop-at-preserved
loop-at-preserved c =
    let within : c.loop-at.at < length c.loop-at.self =
    omega (arith, c.loop-at-test.true, c.len.ensures) in
    clears_passed c.args.self.now c.loop-at.self c.args.mask c.get.result c.loop-at.at within
    c.get.ensures (λ le. let yes = c.is_subset.ensures.1 le in let no = c.if-is_subset.false in cc)
    c.loop-at.invariant

pub returns-clause-apart : goal.returns-clause-apart
returns-clause-apart c =
    let whole : length c.loop-at.self ≤ c.loop-at.at =
    omega (arith, c.loop-at-test.false, c.len.ensures) in
    on_ok _ _ c.push.result (λ is. cleared_apart c.args.self.now c.loop-at.self c.push.new.self
    c.args.mask c.loop-at.at whole c.loop-at.invariant is) c.push.ensures

pub returns-clause-exact : goal.returns-clause-exact
returns-clause-exact c = on_ok _ _ c.push.result
    (λ is. cleared_exact c.args.self.now c.loop-at.self c.push.new.self c.args.mask c.loop-at.at
    c.loop-at.invariant is) c.push.ensures
