use Rattle.clap.specs.Words.{subcommand_rows_of}
use Rattle.desk_line.proofs.LineLemmas.{lack_of}
use Rattle.desk_line.proofs.reading.call_or_lack.Goals as goal

pub returns-in-Err-Lacking-clause-fault : goal.returns-in-Err-Lacking-clause-fault
returns-in-Err-Lacking-clause-fault c =
    lack_of (subcommand_rows_of c.args.matches.now) c.lack.result
    (rw c.in-Err-Lacking.field-0-is at c.in-Err-Lacking.ensures) c.lack.ensures
