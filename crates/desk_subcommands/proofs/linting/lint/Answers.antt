use Rattle.std.proofs.Common.{rules, refl}
use Rattle.std.specs.Io.KnownBytes.{Appends}
use Rattle.desk_subcommands.proofs.linting.lint.Goals as goal

pub returns-clause-told : goal.returns-clause-told
returns-clause-told g c = λ r right.
    let report = c.in_ok-report.report in
    let appended : Appends (g.W.Write.contents c.args.writer.now) (g.W.Write.contents
    c.flush.new.self) report.text = search rules in (
      report.text,
      (report, c.in_ok-report.ensures r right, refl, c.status_of.ensures),
      appended,
    )
