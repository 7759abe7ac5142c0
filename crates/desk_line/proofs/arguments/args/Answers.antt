use Rattle.std.proofs.lemmas.List.Elements.{All-push}
use Rattle.clap.specs.Words.{rule_of}
use Rattle.desk_line.specs.Rows.{rule_at}
use Rattle.desk_line.proofs.RowLemmas.{made_from_next}
use Rattle.std.proofs.Common.{◌≡◌, false, subst, sym}
use Rattle.std.specs.List.{All}
use Rattle.desk_line.proofs.arguments.args.Goals as goal

pub loop-row-preserved : goal.loop-row-preserved
loop-row-preserved c = record {
  rules = made_from_next rule_of rule_at c.loop-row.args.items c.push.new.self.items c.arg.result
      c.args.rows.now c.loop-row.row-index _
      c.in_ok-push.ensures.items c.loop-row.invariant.rules c.loop-row-test.true c.arg.ensures.rule;
  local = subst (All (λ arg. arg.global ≡ false)) (sym c.in_ok-push.ensures.items)
      (All-push (λ arg. arg.global ≡ false) c.loop-row.args.items c.arg.result
      c.loop-row.invariant.local c.arg.ensures.local);
}
