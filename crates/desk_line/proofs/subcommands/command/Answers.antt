use Rattle.std.proofs.Common.{◌≡◌, false}
use Rattle.std.proofs.lemmas.Result.{IfOk-weaker}
use Rattle.clap.specs.Words.{app_of}
use Rattle.clap.specs.declared.builder.command.Command.TheViews.{out-Command}
use Rattle.desk_line.specs.Rows.{row_app}
use Rattle.desk_line.proofs.RowLemmas.{arguments_stay_local, row_whole}
use Rattle.desk_line.proofs.subcommands.command.Goals as goal

pub returns-clause-shape : goal.returns-clause-shape
returns-clause-shape c = IfOk-weaker c.args-3.result _
    (λ command. app_of command ≡ row_app c.args.row.now)
    (λ command adds. row_whole c.args.row.now c.in_ok-args.args.items c.titled_command.result
    command adds
    c.in_ok-args.ensures.rules
    c.in_ok-args.ensures.local c.titled_command.ensures.app)
    c.args-3.ensures

pub returns-clause-local : goal.returns-clause-local
returns-clause-local c = IfOk-weaker c.args-3.result _
    (λ command. (out-Command command).has_globals ≡ false)
    (λ command adds. arguments_stay_local c.in_ok-args.args.items c.titled_command.result command
    adds
    c.in_ok-args.ensures.local c.titled_command.ensures.local)
    c.args-3.ensures
