use Rattle.std.proofs.Common.{◌≡◌, false, refl}
use Rattle.std.proofs.lemmas.Result.{IfOk-weaker}
use Rattle.clap.specs.Words.{app_of}
use Rattle.clap.specs.declared.builder.command.Command.TheViews.{out-Command}
use Rattle.desk_line.specs.Words.{desk_app}
use Rattle.desk_line.proofs.RowLemmas.{desk_whole, subcommands_stay_local}
use Rattle.desk_line.proofs.subcommands.desk_command.Goals as goal

pub returns-clause-shape : goal.returns-clause-shape
returns-clause-shape c = IfOk-weaker c.subcommands.result _ (λ command. app_of command ≡ desk_app)
    (λ command adds. desk_whole c.in_ok-commands.commands.items _ c.desk_alone.result command adds
    c.in_ok-commands.ensures.shapes
    c.in_ok-commands.ensures.local c.desk_alone.ensures.app refl)
    c.subcommands.ensures

pub returns-clause-local : goal.returns-clause-local
returns-clause-local c = IfOk-weaker c.subcommands.result _
    (λ command. (out-Command command).has_globals ≡ false)
    (λ command adds. subcommands_stay_local c.in_ok-commands.commands.items c.desk_alone.result
    command adds c.in_ok-commands.ensures.local
    c.desk_alone.ensures.local)
    c.subcommands.ensures
