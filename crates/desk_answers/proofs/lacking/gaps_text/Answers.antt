use Rattle.std.proofs.Common.{◌≡◌, Bool, subst, sym}
use Rattle.std.specs.Prelude.{IfOk}
use Rattle.desk_answers.specs.Gaps.{gaps_text}
use Rattle.desk_answers.proofs.lacking.gaps_text.Goals as goal

pub returns-then-is_terminal : goal.returns-then-is_terminal
returns-then-is_terminal c =
    subst (λ (b : Bool). IfOk c.columns_of.result (λ text. text.items
    ≡ gaps_text b c.args.gaps.now)) (sym c.if-is_terminal.true) c.columns_of.ensures

pub returns-else-is_terminal : goal.returns-else-is_terminal
returns-else-is_terminal c =
    subst (λ (b : Bool). IfOk c.csv_of.result (λ text. text.items ≡ gaps_text b c.args.gaps.now))
    (sym c.if-is_terminal.false) c.csv_of.ensures
