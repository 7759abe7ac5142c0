-- The last of the rows that a query shows of changes.
use Rattle.std.proofs.Common.{◌≡◌, ℕ, ◌-◌, suc, List, [], ◌∷◌, map, length, slice_get, Option, Some}
use Rattle.std.proofs.Common.{None, refl, sym, ap, ◌∙◌, arith}
use Rattle.sqlite_value.specs.Order.{Row, column}
use Rattle.sqlite_value.specs.declared.value.Value.TheVariants.{Text}
use Rattle.desk_model.specs.Queries.{last_day}
use Rattle.desk_model.specs.declared.row.ChangeRow.{ChangeRow}
use Rattle.desk_sql_layout.specs.Shown.{day_cells}

abbrev last_row : List Row → Option Row
last_row rows = slice_get rows (length rows - 1)

behind : (a b : Row) (rows : List Row) → last_row (a ∷ b ∷ rows) ≡ last_row (b ∷ rows)
behind a b rows = let e : length (a ∷ b ∷ rows) - 1 ≡ suc (length rows) = omega arith in
    let f : length (b ∷ rows) - 1 ≡ length rows = omega arith in rw (e, f) refl

text_of : (row : Row) (a b : List ℕ) → column row 0 ≡ Text a → Some (Text b ∷ []) ≡ Some row → a ≡ b
text_of row a b h e = let r : row ≡ (Text b ∷ []) = cc in let t : Text a ≡ Text b = sym h
    ∙ ap (λ r. column r 0) r in cc

pub last_some : (xs : List ChangeRow) (row : Row) (day : List ℕ)
    → Some row ≡ last_row (map day_cells xs) → column row 0 ≡ Text day → Some day ≡ last_day xs
last_some [] row day is shown = absurd (cc)
last_some (x ∷ []) row day is shown = ap (λ d. Some d) (text_of row day x.day shown (sym is))
last_some (x ∷ y ∷ xs) row day is shown = last_some (y ∷ xs) row day
    (is ∙ behind (day_cells x) (day_cells y) (map day_cells xs)) shown

pub last_none : (xs : List ChangeRow) → None ≡ last_row (map day_cells xs) → None ≡ last_day xs
last_none [] is = refl
last_none (x ∷ []) is = absurd (cc)
last_none (x ∷ y ∷ xs) is = last_none (y ∷ xs)
    (is ∙ behind (day_cells x) (day_cells y) (map day_cells xs))
