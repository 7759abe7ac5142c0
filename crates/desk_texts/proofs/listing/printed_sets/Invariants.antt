use Rattle.std.proofs.Common.{◌≡◌, take}
use Rattle.std.specs.Prelude.{map}
use Rattle.desk_expr.specs.Printing.{printed_term}
use Rattle.desk_texts.proofs.listing.printed_sets.Given as goal

abbrev pub invariant-loop-set : goal.invariant-loop-set
invariant-loop-set l = l.texts.items ≡ map (map printed_term) (take l.set-index l.sets)
