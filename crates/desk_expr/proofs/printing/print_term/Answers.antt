use Rattle.std.proofs.Common.{◌≡◌, ◌∙◌, ◌++◌, sym, subst, ap}
use Rattle.std.specs.String.{string_bytes}
use Rattle.desk_expr.specs.Spelling.{SpellsTermAlone}
use Rattle.desk_expr.specs.Printing.{printed_term}
use Rattle.desk_expr.proofs.Prints.{printed_term_spells}
use Rattle.desk_expr.proofs.printing.print_term.Goals as goal

pub returns-clause-spells : goal.returns-clause-spells
returns-clause-spells c =
    λ well_formed.
    let is : string_bytes c.add_term.new.text ≡ printed_term c.args.term.now =
    c.in_ok-add_term.ensures ∙ ap (λ l. l ++ printed_term c.args.term.now)
    c.new-text.ensures.bytes in
    subst (λ l. SpellsTermAlone l c.args.term.now) (sym is)
    (printed_term_spells c.args.term.now well_formed)
