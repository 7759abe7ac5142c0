-- The cells of waivers that end.
use Rattle.std.proofs.Common.{◌≡◌, ℕ, Bool, true, false, List, [], ◌∷◌, map, filter, Option, Some, None, refl, ap₂}
use Rattle.std.specs.Prelude.{is_some, unwrap_or}
use Rattle.sqlite_value.specs.declared.value.Value.TheVariants.{Text}
use Rattle.desk_sql_layout.specs.Cells.{text_or_null, waiver_cells}
use Rattle.desk_model.specs.declared.row.ChangeRow.{ChangeRow}
use Rattle.desk_model.specs.Moves.{is_waiver}
use Rattle.desk_snapshot.specs.Tables.{waiver_stored}
use Rattle.desk_sql_scan.specs.Cells.{stored_waiver_cells}

day_is : (day : Option (List ℕ)) → is_some day ≡ true → text_or_null day ≡ Text (unwrap_or day [])
day_is None is = absurd (cc)
day_is (Some day) is = refl

pub waivers_are : (rows : List ChangeRow)
    → map waiver_cells (filter is_waiver rows)
    ≡ map (λ x. stored_waiver_cells (waiver_stored x)) (filter is_waiver rows)
waivers_are [] = refl
waivers_are (x ∷ xs) = go (waivers_are xs) (is_waiver x) refl
  where
    go : map waiver_cells (filter is_waiver xs)
        ≡ map (λ x. stored_waiver_cells (waiver_stored x)) (filter is_waiver xs) → (b : Bool)
        → is_waiver x ≡ b
        → map waiver_cells (filter is_waiver (x ∷ xs))
        ≡ map (λ x. stored_waiver_cells (waiver_stored x)) (filter is_waiver (x ∷ xs))
    go more true is = rw is (ap₂ (λ a l. a ∷ l) (rw (day_is x.last_day is) refl) more)
    go more false is = rw is more
