use Rattle.std.proofs.Common.{◌≡◌, ◌∙◌, sym, arith}
use Rattle.std.specs.Prelude.{true}
use Rattle.std.proofs.lemmas.Result.{IfErr-weaker, on_ok_weaker}
use Rattle.desk_script.specs.Losses.{IfStop, Loses}
use Rattle.desk_script.specs.Lines.{request_at}
use Rattle.desk_script.specs.Script.{ServesUntil}
use Rattle.desk_script.specs.Faults.{IsOfReply}
use Rattle.desk_script.proofs.Chains.{stop_then}
use Rattle.desk_script.proofs.Losing.{lost_by}
use Rattle.desk_script.proofs.OneLine.{Serves-blank, Serves-one, ServesUntil-one}
use Rattle.desk_script.proofs.serving.serve.Goals as goal

pub returns-then-line-clause-ok : goal.returns-then-line-clause-ok
returns-then-line-clause-ok g c = λ text h.
    Serves-blank g.D.Desk.are_right g.D.Desk.tells g.D.Desk.stands g.D.Desk.seen c.args.desk.now
    (g.W.Write.contents c.args.writer.now) c.args.end.now c.args.line.now text h c.if-line.true

pub returns-clause-ok : goal.returns-clause-ok
returns-clause-ok g c = λ text h.
    on_ok_weaker c.tell_reply-told.result (λ written.
    Serves-one g.D.Desk.are_right g.D.Desk.tells g.D.Desk.stands g.D.Desk.seen c.args.desk.now
    c.answer_kept-reply.new.desk
    (g.W.Write.contents c.args.writer.now) (g.W.Write.contents c.tell_reply-told.new.writer)
    c.args.end.now c.count.new.self c.args.line.now text
    c.answer_kept-reply.result h c.if-line.false (c.answer_kept-reply.ensures.replies text h)
    written c.count.ensures.refused c.count.ensures.failed) c.tell_reply-told.ensures.ok

pub returns-clause-err : goal.returns-clause-err
returns-clause-err g c = λ text h.
    IfErr-weaker c.tell_reply-told.result
    (λ fault. Loses fault c.answer_kept-reply.result (g.W.Write.contents c.args.writer.now)
    (g.W.Write.contents c.tell_reply-told.new.writer))
    (λ fault. ServesUntil g.D.Desk.are_right g.D.Desk.tells g.D.Desk.stands g.D.Desk.seen fault
    (request_at text) c.args.desk.now c.answer_kept-reply.new.desk
    (g.W.Write.contents c.args.writer.now) (g.W.Write.contents c.tell_reply-told.new.writer))
    (λ fault loses.
    ServesUntil-one g.D.Desk.are_right g.D.Desk.tells g.D.Desk.stands g.D.Desk.seen fault
    c.args.desk.now c.answer_kept-reply.new.desk (g.W.Write.contents c.args.writer.now)
    (g.W.Write.contents c.tell_reply-told.new.writer) c.args.line.now text
    c.answer_kept-reply.result h c.if-line.false (c.answer_kept-reply.ensures.replies text h) loses)
    c.tell_reply-told.ensures.err

pub returns-clause-fault : goal.returns-clause-fault
returns-clause-fault g c =
    IfErr-weaker c.tell_reply-told.result
    (λ fault. Loses fault c.answer_kept-reply.result (g.W.Write.contents c.args.writer.now)
    (g.W.Write.contents c.tell_reply-told.new.writer)) IsOfReply
    (λ fault loses. lost_by fault c.answer_kept-reply.result (g.W.Write.contents c.args.writer.now)
    (g.W.Write.contents c.tell_reply-told.new.writer) loses)
    c.tell_reply-told.ensures.err

pub returns-clause-still : goal.returns-clause-still
returns-clause-still g c =
    let same = c.answer_kept-reply.ensures.same ∙ c.came.ensures in
    on_ok_weaker c.tell_reply-told.result (λ goes. λ stops.
    let none = goes (same ∙ stops) in
    (omega (arith, c.count.ensures.refused, none.0), omega (arith, c.count.ensures.failed, none.1)))
    c.tell_reply-told.ensures.goes

pub returns-clause-halts : goal.returns-clause-halts
returns-clause-halts g c =
    let same = c.answer_kept-reply.ensures.same ∙ c.came.ensures in
    IfErr-weaker c.tell_reply-told.result
    (IfStop (g.V.Watch.stops c.answer_kept-reply.new.watch ≡ true))
    (IfStop (g.V.Watch.stops c.args.watch.now ≡ true))
    (λ fault. stop_then fault (λ stops. sym same ∙ stops)) c.tell_reply-told.ensures.halts

pub returns-clause-few : goal.returns-clause-few
returns-clause-few g c = c.count.ensures.few
