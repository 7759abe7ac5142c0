-- What the texts of terms say (SPDX 2.3, Annex D).
use Rattle.std.specs.Prelude.{◌≡◌, ℕ, List, Option, Some, None, option_and_then, if◌then◌else◌}
use Rattle.desk_expr.specs.declared.term.Term.{Term}
use Rattle.desk_expr.specs.Spelling.{SpellsTermWithin}
use Rattle.desk_expr.specs.Printing.{printed_term}
use Rattle.desk_tokens.specs.Words.{begins_like_reference}

-- the text spells the term that is printed like this, or none
abbrev pub IsTermOf : List ℕ → Option (List ℕ) → Type 0
IsTermOf text (Some printed) = (t : Term) × SpellsTermWithin text t × (printed_term t ≡ printed)
IsTermOf text None = (t : Term) → SpellsTermWithin text t → ⊥

-- the function gives the printed term of each text that spells one
abbrev pub ReadsTerms : (List ℕ → Option (List ℕ)) → Type 0
ReadsTerms terms = (text : List ℕ) → IsTermOf text (terms text)

-- a printed term that isn't a reference: licence ids are printed in lower case, so only a reference
-- begins like one
abbrev pub if_licence : List ℕ → Option (List ℕ)
if_licence printed = if begins_like_reference printed then None else Some printed

-- the printed term of a text that spells one, if it is no reference
abbrev pub licence_of : (List ℕ → Option (List ℕ)) → List ℕ → Option (List ℕ)
licence_of terms text = option_and_then if_licence (terms text)
