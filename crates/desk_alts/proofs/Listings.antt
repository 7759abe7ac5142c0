-- Each tree can be listed, or has a fault.
use Rattle.std.proofs.Common.{◌⊎◌, inl, inr, List}
use Rattle.desk_expr.specs.declared.term.Term.{Term}
use Rattle.desk_expr.specs.Tree.{Tree}
use Rattle.desk_alts.specs.Faults.{IsListable}
use Rattle.desk_alts.specs.Sets.{AreAlternatives, HasMoreTerms, HasWideFront}
use Rattle.desk_alts.proofs.ListingExists.{alternatives_exist}
use Rattle.desk_alts.proofs.FrontWidths.{more_terms_or_not, wide_or_not}

pub listing_exists : (e : Tree)
    → (IsListable e × (sets : List (List Term)) × AreAlternatives e sets)
    ⊎ (HasMoreTerms 128 e ⊎ ((HasMoreTerms 128 e → ⊥) × HasWideFront e))
listing_exists e =
    elim (more_terms_or_not 128 e) [
      | inl many ↦ inr (inl many)
      | inr few ↦ elim (wide_or_not e) [
        | inl wide ↦ inr (inr (few, wide))
        | inr narrow ↦ let own = alternatives_exist e in inl ((few, narrow), own.0, own.1)
      ]
    ]

pub listable_has_no_fault : (e : Tree) → IsListable e
    → HasMoreTerms 128 e ⊎ ((HasMoreTerms 128 e → ⊥) × HasWideFront e) → ⊥
listable_has_no_fault e listable fault = elim fault
    [ inl many ↦ listable.0 many | inr wide ↦ listable.1 wide.1 ]
