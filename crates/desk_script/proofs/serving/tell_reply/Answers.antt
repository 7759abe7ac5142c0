use Rattle.std.proofs.Common.{◌≡◌}
use Rattle.std.specs.Prelude.{true}
use Rattle.std.proofs.lemmas.Result.{IfErr-weaker}
use Rattle.desk_script.specs.Losses.{IfStop, IsStopAt, Loses}
use Rattle.desk_script.proofs.Chains.{stop_then}
use Rattle.desk_script.proofs.Losing.{stopped_at}
use Rattle.desk_script.proofs.Results.{handed_on}
use Rattle.desk_script.proofs.serving.tell_reply.Goals as goal

pub returns-clause-err : goal.returns-clause-err
returns-clause-err g c =
    IfErr-weaker c.go_on.result (IsStopAt c.args.reply.now)
    (λ fault. Loses fault c.args.reply.now (g.W.Write.contents c.args.writer.now)
    (g.W.Write.contents c.write_reply.new.writer))
    (λ fault at. stopped_at fault c.args.reply.now (g.W.Write.contents c.args.writer.now)
    (g.W.Write.contents c.write_reply.new.writer) at c.in_ok-write_reply.ensures.ok)
    c.go_on.ensures.ends

pub returns-in_err-write_reply-clause-halts : goal.returns-in_err-write_reply-clause-halts
returns-in_err-write_reply-clause-halts g c =
    let fault = c.in_err-write_reply.field-0.0 in
    handed_on (IfStop (g.V.Watch.stops c.args.watch.now ≡ true)) c.from_residual.result fault
    c.from_residual.ensures.1
    (stop_then fault (λ never. absurd never) c.in_err-write_reply.ensures.goes)
