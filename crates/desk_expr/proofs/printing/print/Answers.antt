use Rattle.std.proofs.Common.{◌≡◌, ◌∙◌, ◌++◌, sym, subst, ap}
use Rattle.std.specs.String.{string_bytes}
use Rattle.desk_expr.specs.Spelling.{Spells}
use Rattle.desk_expr.specs.Printing.{printed}
use Rattle.desk_expr.proofs.Prints.{printed_spells}
use Rattle.desk_expr.proofs.printing.print.Goals as goal

pub returns-clause-spells : goal.returns-clause-spells
returns-clause-spells c =
    let is : string_bytes c.add_to.new.text ≡ printed c.args.expr.now = c.in_ok-add_to.ensures.text
    ∙ ap (λ l. l ++ printed c.args.expr.now) c.new-text.ensures.bytes in
    subst (λ l. Spells l c.args.expr.now) (sym is)
    (printed_spells c.args.expr.now c.in_ok-add_to.ensures.well_formed)
