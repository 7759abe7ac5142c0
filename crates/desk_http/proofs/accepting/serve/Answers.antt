use Rattle.std.proofs.Common.{◌≡◌, ℕ, ◌+◌, ◌∷◌, ◌++◌, [], arith, length, length-append, refl, subst}
use Rattle.desk_http.specs.Accepting.{AreCounted}
use Rattle.desk_http.proofs.Accepted.{answered_then, counted_then}
use Rattle.desk_http.proofs.accepting.serve.Goals as goal

pub loop-turn-init : goal.loop-turn-init
loop-turn-init g c = record {
  cs = [];
  count = refl;
  few = omega arith;
  answered = refl;
  counted = (refl, refl);
}

pub loop-turn-preserved : goal.loop-turn-preserved
loop-turn-preserved g c =
    let at = c.loop-turn.invariant in
    let one = c.serve_next-failed.ensures.served in
    let longer : length (at.cs ++ one.0 ∷ []) ≡ length at.cs + 1 =
    length-append at.cs (one.0 ∷ []) in
    record {
      cs = at.cs ++ one.0 ∷ [];
      count = omega (arith, longer, at.count);
      few = omega (arith, at.few, c.serve_next-failed.ensures.one);
      answered = answered_then g.D.Desk.are_right g.D.Desk.tells g.D.Desk.stands g.D.Desk.seen
          c.args.desk.now at.cs c.loop-turn.desk one.0 c.serve_next-failed.new.desk at.answered one.2;
      counted = counted_then g.A.Accept.accepts g.A.Accept.ends g.A.Reader.Read.remaining
          g.A.Writer.Write.contents c.args.port c.args.connections.now at.cs c.loop-turn.failed
          c.loop-turn.connections one.0 c.serve_next-failed.result c.serve_next-failed.new.connections
          at.counted one.1 one.3;
    }

pub returns-then-failed-eq0-clause-served : goal.returns-then-failed-eq0-clause-served
returns-then-failed-eq0-clause-served g c =
    let at = c.loop-turn.invariant in (
      at.cs,
      omega (arith, at.count, c.loop-turn.auto.turn-end),
      at.answered,
      subst (λ (n : ℕ). AreCounted g.A.Accept.accepts g.A.Accept.ends g.A.Reader.Read.remaining
          g.A.Writer.Write.contents c.args.port at.cs c.args.connections.now n
          c.loop-turn.connections) c.if-failed-eq0.true at.counted,
    )

pub returns-clause-served : goal.returns-clause-served
returns-clause-served g c =
    let at = c.loop-turn.invariant in (
      at.cs,
      omega (arith, at.count, c.loop-turn.auto.turn-end),
      at.answered,
      at.counted,
    )
