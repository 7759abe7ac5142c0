use Rattle.std.proofs.Common.{map}
use Rattle.clap.specs.Words.{app_of, subcommand_rows_of}
use Rattle.desk_line.proofs.LineLemmas.{call_told, fault_told, found_of_app, refused, taken}
use Rattle.desk_line.proofs.reading.line.Goals as goal

pub returns-in-Ok-clause-call : goal.returns-in-Ok-clause-call
returns-in-Ok-clause-call c =
    let words = map (λ w. w.now) c.args.words.now in
    let met = subcommand_rows_of c.in-Ok.matches in
    let whole = taken (app_of c.in_ok-command.command) words met c.in_ok-command.ensures.shape
    c.in-Ok.ensures.kinds
    (λ simple. (c.in-Ok.ensures.ok.2 simple).1) in
    call_told words met c.call_or_lack.result whole.1 c.call_or_lack.ensures.call

pub returns-in-Ok-clause-fault : goal.returns-in-Ok-clause-fault
returns-in-Ok-clause-fault c =
    let app = app_of c.in_ok-command.command in
    let words = map (λ w. w.now) c.args.words.now in
    let met = subcommand_rows_of c.in-Ok.matches in
    let whole = taken app words met c.in_ok-command.ensures.shape c.in-Ok.ensures.kinds
    (λ simple. (c.in-Ok.ensures.ok.2 simple).1) in
    let found = found_of_app app words met c.in_ok-command.ensures.shape
    (λ simple. (c.in-Ok.ensures.ok.2 simple).1) in
    fault_told words met c.call_or_lack.result whole found c.call_or_lack.ensures.fault

pub returns-clause-fault : goal.returns-clause-fault
returns-clause-fault c =
    refused (app_of c.in_ok-command.command) (map (λ w. w.now) c.args.words.now) c.in-Err.error
    c.refusal.result c.in_ok-command.ensures.shape
    c.in-Err.ensures.kinds c.refusal.ensures
