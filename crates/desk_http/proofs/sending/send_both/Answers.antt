use Rattle.std.proofs.Common.{refl}
use Rattle.std.proofs.lemmas.Result.{on_err_weaker}
use Rattle.desk_base.proofs.Results.{OnErr-always}
use Rattle.desk_script.proofs.Losing.{front_after, front_before}
use Rattle.desk_http.proofs.sending.send_both.Goals as goal

pub returns-in_err-write_whole-clause-err : goal.returns-in_err-write_whole-clause-err
returns-in_err-write_whole-clause-err g c =
    OnErr-always c.from_residual.result
    (front_before (g.W.Write.contents c.args.writer.now)
    (g.W.Write.contents c.write_whole.new.writer) c.args.front.now c.args.rest.now c.args.front.now
    refl c.in_err-write_whole.ensures.err)

pub returns-clause-err : goal.returns-clause-err
returns-clause-err g c =
    on_err_weaker c.send.result
    (front_after (g.W.Write.contents c.args.writer.now)
    (g.W.Write.contents c.write_whole.new.writer) (g.W.Write.contents c.send.new.writer)
    c.args.front.now c.args.rest.now c.args.front.now refl c.in_ok-write_whole.ensures.ok)
    c.send.ensures.err
