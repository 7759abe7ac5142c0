use Rattle.clap.specs.Words.{subcommand_rows_of}
use Rattle.desk_line.specs.Calls.{lacking}
use Rattle.desk_line.proofs.LineLemmas.{lack_told}
use Rattle.desk_line.proofs.reading.lack.Goals as goal

pub returns-in-Ok : goal.returns-in-Ok
returns-in-Ok c =
    lack_told (lacking (subcommand_rows_of c.args.matches.now)) _ c.in-Ok.error c.refusal.result
    c.lacking-kind.ensures c.in-Ok.ensures.kind
    c.refusal.ensures
