-- Licences as one text, and notices as one text.
use Rattle.std.specs.Prelude.{ℕ, ◌||◌, nat_eq, Bool, false, List, [], ◌∷◌, ◌++◌, codes, Ok, Err, if◌then◌else◌}
use Rattle.std.specs.List.{list_any, starts_with}
use Rattle.desk_tree_annotations.specs.Right.{Reading}
use Rattle.desk_tree_gather.specs.declared.fault.GatherFault.TheVariants.{ExpressionTooLong}
use Rattle.desk_tree_gather.specs.Trees.{Read}

-- ---- licences

-- what follows the first of several licences: each other one in parentheses
abbrev pub others_joined : List (List ℕ) → List ℕ
others_joined [] = []
others_joined (t ∷ ts) = codes " AND (" ++ (t ++ (codes ")" ++ others_joined ts))

-- the only licence, or each in parentheses, joined by ` AND `
abbrev pub expression_of : List (List ℕ) → List ℕ
expression_of [] = codes "NOASSERTION"
expression_of (t ∷ []) = t
expression_of (t ∷ u ∷ us) = codes "(" ++ (t ++ (codes ")" ++ others_joined (u ∷ us)))

-- the same, if that is a licence expression
abbrev pub expression_read : Reading → List (List ℕ) → Read (List ℕ)
expression_read r licences = let text = expression_of licences in
    if r.is_expression text then Ok text else Err ExpressionTooLong

-- ---- notices

-- `</text>` is in a text
abbrev pub holds_close : List ℕ → Bool
holds_close [] = false
holds_close (b ∷ bs) = starts_with nat_eq (b ∷ bs) (codes "</text>") || holds_close bs

-- each on its own line
abbrev pub others_below : List (List ℕ) → List ℕ
others_below [] = []
others_below (t ∷ ts) = codes "\n" ++ (t ++ others_below ts)

-- joined by line feeds; if there is none, or one holds `</text>`, there is no copyright
abbrev pub copyright_of : List (List ℕ) → List ℕ
copyright_of [] = codes "NOASSERTION"
copyright_of (t ∷ ts) = if list_any holds_close (t ∷ ts) then codes "NOASSERTION"
    else t ++ others_below ts
