use Rattle.std.proofs.Common.{◌≡◌, ◌↔◌, ◌⊎◌, ℕ, drop, Some}
use Rattle.std.specs.Prelude.{slice_get}
use Rattle.std.specs.Int.{bit_at}
use Rattle.desk_expr.specs.declared.term.Term.{Term}
use Rattle.desk_expr.specs.Tree.{parts_of, tree_size}
use Rattle.desk_expr.specs.Meaning.{AllHold, SomeHolds, Without}
use Rattle.desk_alts.proofs.truth.+holds_without.Given as goal

-- all parts hold if the bit is set and the parts from the index on hold
abbrev pub invariant-loop-part : goal.invariant-loop-part
invariant-loop-part l =
    (k place : ℕ) (gone : Term) → slice_get l.candidates k ≡ Some place
    → slice_get l.listed.chosen.now place ≡ Some gone →
    AllHold (Without l.listed.chosen.now gone) (parts_of l.parts)
    ↔ ((bit_at l.marks k ≡ 1) × AllHold (Without l.listed.chosen.now gone)
    (parts_of (drop l.part-index l.parts)))

abbrev pub invariant-loop-part-2 : goal.invariant-loop-part-2
invariant-loop-part-2 l =
    (k place : ℕ) (gone : Term) → slice_get l.candidates k ≡ Some place
    → slice_get l.listed.chosen.now place ≡ Some gone →
    SomeHolds (Without l.listed.chosen.now gone) (parts_of l.parts)
    ↔ ((bit_at l.marks k ≡ 1) ⊎ SomeHolds (Without l.listed.chosen.now gone)
    (parts_of (drop l.part-index l.parts)))

abbrev pub decreases-holds_without : goal.decreases-holds_without
decreases-holds_without l = tree_size l.expr.now
