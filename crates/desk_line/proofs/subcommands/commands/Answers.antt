use Rattle.std.proofs.Common.{◌≡◌, false, ap, subst, sym}
use Rattle.std.specs.List.{All}
use Rattle.std.proofs.lemmas.List.Elements.{All-push}
use Rattle.clap.specs.Words.{shape_of}
use Rattle.clap.specs.declared.builder.command.Command.TheViews.{out-Command}
use Rattle.desk_line.specs.Rows.{row_shape}
use Rattle.desk_line.proofs.RowLemmas.{made_from_next}
use Rattle.desk_line.proofs.subcommands.commands.Goals as goal

pub loop-row-preserved : goal.loop-row-preserved
loop-row-preserved c = record {
  shapes = made_from_next shape_of row_shape c.loop-row.commands.items c.push.new.self.items
      c.in_ok-command.field-0 c.args.rows.now c.loop-row.row-index _
      c.in_ok-push.ensures.items c.loop-row.invariant.shapes c.loop-row-test.true
      (ap (λ app. app.top) c.in_ok-command.ensures.shape);
  local = subst (All (λ command. (out-Command command).has_globals ≡ false))
      (sym c.in_ok-push.ensures.items)
      (All-push (λ command. (out-Command command).has_globals ≡ false) c.loop-row.commands.items
      c.in_ok-command.field-0 c.loop-row.invariant.local c.in_ok-command.ensures.local);
}
