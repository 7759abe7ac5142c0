use Rattle.std.proofs.Common.{arith, length-append, ◌∷◌, []}
use Rattle.desk_duties.proofs.Walking.{duties_push}
use Rattle.desk_duties.proofs.freeze.duty_rows.Goals as goal

pub loop-owed-preserved : goal.loop-owed-preserved
loop-owed-preserved c = record {
  number = omega (
    arith,
    length-append c.loop-owed.yielded (c.in-Some.owed ∷ []),
    c.loop-owed.invariant.number,
  );
  rows = duties_push c.args.first c.loop-owed.yielded c.in-Some.owed c.loop-owed.number
      c.loop-owed.rows.items c.push.new.self.items c.loop-owed.invariant.number
      c.loop-owed.invariant.rows c.in_ok-push.ensures.items;
}
