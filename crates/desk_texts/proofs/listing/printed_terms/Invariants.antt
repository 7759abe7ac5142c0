use Rattle.std.proofs.Common.{◌≡◌, take}
use Rattle.std.specs.Prelude.{map}
use Rattle.desk_expr.specs.Printing.{printed_term}
use Rattle.desk_texts.proofs.listing.printed_terms.Given as goal

abbrev pub invariant-loop-term : goal.invariant-loop-term
invariant-loop-term l = l.texts.items ≡ map printed_term (take l.term-index l.terms)
