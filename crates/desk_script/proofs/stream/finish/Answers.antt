use Rattle.std.proofs.lemmas.Result.{IfErr-weaker, on_ok_weaker}
use Rattle.desk_script.specs.Lines.{request_at}
use Rattle.desk_script.specs.Script.{IsFrontAt, ServesUntil}
use Rattle.desk_script.specs.declared.serving.ScriptStop.TheVariants.{Memory}
use Rattle.desk_script.proofs.Progress.{IsFrontAt-last, IsFrontAt-none, IsPart-last}
use Rattle.desk_script.proofs.Results.{handed_on}
use Rattle.desk_script.proofs.stream.finish.Goals as goal

pub returns-in_err-keep_cr-clause-err : goal.returns-in_err-keep_cr-clause-err
returns-in_err-keep_cr-clause-err g c = λ number came shows no_lf.
    handed_on
    (λ fault. IsFrontAt g.D.Desk.are_right g.D.Desk.tells g.D.Desk.stands g.D.Desk.seen number fault
    came c.args.desk.now c.args.desk.now (g.W.Write.contents c.args.writer.now)
    (g.W.Write.contents c.args.writer.now))
    c.from_residual.result Memory c.from_residual.ensures.1
    (IsFrontAt-none g.D.Desk.are_right g.D.Desk.tells g.D.Desk.stands g.D.Desk.seen number Memory
    came c.args.desk.now (g.W.Write.contents c.args.writer.now) c.args.end.now tt)

pub returns-clause-ok : goal.returns-clause-ok
returns-clause-ok g c = λ number came shows no_lf.
    on_ok_weaker c.serve.result (λ serves.
    IsPart-last g.D.Desk.are_right g.D.Desk.tells g.D.Desk.stands g.D.Desk.seen number came
    c.args.desk.now c.serve.new.desk
    (g.W.Write.contents c.args.writer.now) (g.W.Write.contents c.serve.new.writer) c.args.end.now
    c.serve.new.end no_lf serves)
    (c.serve.ensures.ok came (c.in_ok-keep_cr.ensures.came came shows))

pub returns-clause-err : goal.returns-clause-err
returns-clause-err g c = λ number came shows no_lf.
    IfErr-weaker c.serve.result
    (λ fault. ServesUntil g.D.Desk.are_right g.D.Desk.tells g.D.Desk.stands g.D.Desk.seen fault
    (request_at came) c.args.desk.now c.serve.new.desk (g.W.Write.contents c.args.writer.now)
    (g.W.Write.contents c.serve.new.writer))
    (λ fault. IsFrontAt g.D.Desk.are_right g.D.Desk.tells g.D.Desk.stands g.D.Desk.seen number fault
    came c.args.desk.now c.serve.new.desk (g.W.Write.contents c.args.writer.now)
    (g.W.Write.contents c.serve.new.writer))
    (λ fault serves.
    IsFrontAt-last g.D.Desk.are_right g.D.Desk.tells g.D.Desk.stands g.D.Desk.seen number fault came
    c.args.desk.now c.serve.new.desk (g.W.Write.contents c.args.writer.now)
    (g.W.Write.contents c.serve.new.writer) no_lf serves)
    (c.serve.ensures.err came (c.in_ok-keep_cr.ensures.came came shows))
