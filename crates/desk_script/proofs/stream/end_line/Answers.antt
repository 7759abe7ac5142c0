use Rattle.std.proofs.Common.{◌++◌, ◌∷◌}
use Rattle.desk_script.specs.Script.{IsFrontAt}
use Rattle.desk_script.proofs.Progress.{HasServed-line, IsFrontAt-line}
use Rattle.desk_script.proofs.Results.{handed_on}
use Rattle.desk_script.proofs.stream.end_line.Goals as goal

pub returns-in_err-serve-clause-err : goal.returns-in_err-serve-clause-err
returns-in_err-serve-clause-err g c = λ number came more shows no_lf.
    let fault = c.in_err-serve.field-0.0 in
    handed_on
    (λ f. IsFrontAt g.D.Desk.are_right g.D.Desk.tells g.D.Desk.stands g.D.Desk.seen number f
    (came ++ 10 ∷ more) c.args.desk.now c.serve.new.desk (g.W.Write.contents c.args.writer.now)
    (g.W.Write.contents c.serve.new.writer))
    c.from_residual.result fault c.from_residual.ensures.1
    (IsFrontAt-line g.D.Desk.are_right g.D.Desk.tells g.D.Desk.stands g.D.Desk.seen number fault
    came more c.args.desk.now c.serve.new.desk (g.W.Write.contents c.args.writer.now)
    (g.W.Write.contents c.serve.new.writer)
    c.args.line.now shows no_lf (c.in_err-serve.ensures.err shows.0 shows.1))

pub returns-clause-ok : goal.returns-clause-ok
returns-clause-ok g c = λ number came shows no_lf.
    HasServed-line g.D.Desk.are_right g.D.Desk.tells g.D.Desk.stands g.D.Desk.seen number came
    c.args.desk.now c.serve.new.desk
    (g.W.Write.contents c.args.writer.now) (g.W.Write.contents c.serve.new.writer) c.args.end.now
    c.serve.new.end c.args.line.now c.clear.new.self shows no_lf
    (c.in_ok-serve.ensures.ok shows.0 shows.1) c.clear.ensures
