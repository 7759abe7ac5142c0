use Rattle.std.proofs.Common.{◌≢◌}
use Rattle.csv.specs.declared.writer.QuoteStyle.TheVariants as style
use Rattle.desk_report.specs.CsvTable.{record_text}
use Rattle.desk_report.proofs.table.add_record.Goals as goal
use Rattle.desk_report.proofs.table.add_record.Goals.{in-Ok, in-Err}

pub returns-clause-bytes : goal.returns-clause-bytes
unfolding record_text
returns-clause-bytes g c =
    let plain : c.args.writer.now.cfg.style ≢ style.NonNumeric = rw c.requires.0 (λ e. cc e) in
    elim c.match-write_fields.branch [
      | in-Ok w ↦ rw w.result-is (rw c.requires.0 at
          (w.in-Ok.ensures.bytes c.requires.1 c.requires.2 plain))
      | in-Err w ↦ rw w.result-is tt
    ]
