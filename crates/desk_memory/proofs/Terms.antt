-- The terms of choices that are borrowed.
use Rattle.std.proofs.Common.{◌≡◌, List, [], ◌∷◌, Bor, map, refl, ap}
use Rattle.desk_model.specs.declared.row.ChoiceRow.{ChoiceRow}

pub terms_read : (rows : List (Bor ChoiceRow))
    → map (λ row. row.now.term) rows ≡ map (λ row. row.term) (map (λ row. row.now) rows)
terms_read [] = refl
terms_read (row ∷ rows) = ap (λ terms. row.now.term ∷ terms) (terms_read rows)
