use Rattle.std.proofs.Common.{◌≡◌, ◌∙◌, ◌+◌, ◌<◌, ◌++◌, ◌∷◌, [], ℕ, List, false, sym, ap₂, refl, subst, rules}
use Rattle.std.proofs.Common.{map, take, take_all, length, get_or}
use Rattle.std.proofs.lemmas.List.{map_more, take_more}
use Rattle.desk_lists.specs.CsvTable.{as_text, is_formula}
use Rattle.desk_lists.proofs.table.are_texts.Goals as goal

kept : (xs : List (List ℕ)) (i : ℕ) (x text : List ℕ) → i < length xs → x ≡ get_or xs i x
    → text ≡ x → map as_text (take i xs) ≡ take i xs → is_formula text ≡ false
    → map as_text (take (i + 1) xs) ≡ take (i + 1) xs
kept xs i x text inside at shown so_far none =
    let plain : is_formula (get_or xs i x) ≡ false =
    subst (λ (y : List ℕ). is_formula y ≡ false) (shown ∙ at) none in
    map_more as_text xs i x inside
    ∙ (ap₂ (λ ys y. ys ++ y ∷ []) so_far (rw plain refl) ∙ sym (take_more xs i x inside))

pub loop-cell-preserved : goal.loop-cell-preserved
loop-cell-preserved c =
    kept c.args.cells.now c.loop-cell.cell-index c.cell-item.result c.as_str.result.now
    c.loop-cell-test.true c.cell-item.is (search rules) c.loop-cell.invariant
    (sym c.is_formula.ensures ∙ c.if-is_formula.false)

pub returns : goal.returns
returns c = λ told.
    let all = take_all c.loop-cell.cell-index c.args.cells.now c.loop-cell-test.false in
    rw all at c.loop-cell.invariant
