use Rattle.std.proofs.Common.{◌∙◌, sym, length}
use borrow.Author.Tests.{eqb-true}
use Rattle.std.proofs.lemmas.Bool.Decides.{Decides-eqb}
use Rattle.std.proofs.lemmas.Slice.Eq.{slice_eq-Decides}
use Rattle.desk_tree_patterns.proofs.PlaceLemmas.{no_parts}
use Rattle.desk_tree_patterns.proofs.matching.is_found.Goals as goal

pub returns-then-is_empty : goal.returns-then-is_empty
returns-then-is_empty c =
    let place = c.args.place in
    let none = eqb-true (length place.parts.now) 0 (sym c.is_empty.ensures ∙ c.if-is_empty.true) in
    let same = slice_eq-Decides Decides-eqb place.text.now place.bytes.now c.eq.result c.eq.ensures
    in
    (λ told. (no_parts place.parts.now none, same.0 told), λ found. same.1 found.1)
