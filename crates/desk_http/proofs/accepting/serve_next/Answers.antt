use Rattle.std.proofs.Common.{[], Some, None, inl, inr, refl}
use Rattle.desk_http.proofs.Accepted.{ended}
use Rattle.desk_http.proofs.accepting.serve_next.Goals as goal

pub returns-in_default-clause-served : goal.returns-in_default-clause-served
returns-in_default-clause-served g c = (
  record { port = Some c.args.port; bytes = []; told = None },
  refl,
  refl,
  inl (rw c.in_default.is at c.accept.ensures, refl, refl),
)

pub returns-clause-served : goal.returns-clause-served
returns-clause-served g c =
    let it = ended g.D.Desk.are_right g.D.Desk.tells g.D.Desk.stands g.D.Desk.seen c.args.port
    c.args.desk.now c.serve_at-ending.new.desk
    (g.A.Reader.Read.remaining c.in-Some.reader)
    (g.A.Reader.Read.remaining c.serve_at-ending.new.reader)
    (g.A.Writer.Write.contents c.in-Some.writer)
    (g.A.Writer.Write.contents c.serve_at-ending.new.writer)
    c.serve_at-ending.result c.serve_at-ending.ensures.ok c.serve_at-ending.ensures.fault in (
      it.0,
      it.1,
      it.2,
      inr (record {
        reader = c.in-Some.reader;
        writer = c.in-Some.writer;
        accepted = c.accept.new.self;
        is_accepted = rw c.in-Some.is at c.accept.ensures;
        read = c.serve_at-ending.new.reader;
        written = c.serve_at-ending.new.writer;
        ending = c.serve_at-ending.result;
        has_ended = it.3;
        is_back = c.ended.ensures;
        counts = c.failures-failed.ensures.count;
      }),
    )
