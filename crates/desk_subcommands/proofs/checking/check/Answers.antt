use Rattle.std.proofs.Common.{◌≡◌, ◌++◌, ◌∷◌, [], refl, subst, ◌∙◌}
use Rattle.std.specs.Io.KnownBytes.{Appends}
use Rattle.desk_subcommands.specs.Report.{text_of}
use Rattle.desk_subcommands.proofs.WriterLemmas.{appends_kept}
use Rattle.desk_subcommands.proofs.OneAnswer.{one_answer}
use Rattle.desk_subcommands.proofs.ReportLemmas.{texts}
use Rattle.desk_subcommands.proofs.checking.check.Goals as goal

pub returns-clause-told : goal.returns-clause-told
returns-clause-told g c =
    let line : c.as_bytes.result.now ≡ text_of c.in_ok-report.report ++ 10 ∷ [] =
    c.as_bytes.ensures.value ∙ c.in_ok-line.ensures.ok in (
      text_of c.in_ok-report.report,
      (c.in_ok-report.report, c.in_ok-report.ensures, refl, c.status.ensures),
      appends_kept _ _ _ _ (subst (λ bytes. Appends (g.W.Write.contents c.args.writer.now)
          (g.W.Write.contents c.write_all.new.self) bytes) line c.in_ok-write_all.ensures.bytes)
          c.in_ok-flush.ensures.bytes,
    )

pub returns-in_err-report-clause-once : goal.returns-in_err-report-clause-once
returns-in_err-report-clause-once g c = one_answer c.args.profile c.args.expression.now
    (texts c.args.words.now)

pub returns-in_err-line-clause-once : goal.returns-in_err-line-clause-once
returns-in_err-line-clause-once g c = one_answer c.args.profile c.args.expression.now
    (texts c.args.words.now)

pub returns-in_err-write_all-clause-once : goal.returns-in_err-write_all-clause-once
returns-in_err-write_all-clause-once g c = one_answer c.args.profile c.args.expression.now
    (texts c.args.words.now)

pub returns-in_err-flush-clause-once : goal.returns-in_err-flush-clause-once
returns-in_err-flush-clause-once g c = one_answer c.args.profile c.args.expression.now
    (texts c.args.words.now)

pub returns-clause-once : goal.returns-clause-once
returns-clause-once g c = one_answer c.args.profile c.args.expression.now (texts c.args.words.now)
