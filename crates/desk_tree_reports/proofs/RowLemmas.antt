-- Rows, one after another.
use Rattle.std.proofs.Common.{◌≡◌, ℕ, ◌+◌, ◌<◌, List, [], ◌∷◌, ◌++◌, length, get_or, take, sym, subst}
use Rattle.std.proofs.lemmas.List.{take_more}
use Rattle.desk_tree_gather.specs.declared.flaw.Flaw.{Flaw}
use Rattle.desk_tree_problems.specs.declared.row.Row.{Row}
use Rattle.desk_tree_problems.specs.Rows.{IsFlawRow, AreFlawRows}

one_more : (flaws : List Flaw) (rows : List Row) (flaw : Flaw) (row : Row) → AreFlawRows flaws rows
    → IsFlawRow flaw row → AreFlawRows (flaws ++ flaw ∷ []) (rows ++ row ∷ [])
one_more [] [] flaw row are is = (is, tt)
one_more [] (r ∷ rs) flaw row are is = absurd are
one_more (f ∷ fs) [] flaw row are is = absurd are
one_more (f ∷ fs) (r ∷ rs) flaw row are is = (are.0, one_more fs rs flaw row are.1 is)

pub rows_more : (flaws : List Flaw) (i : ℕ) (d : Flaw) (rows new : List Row) (row : Row)
    → i < length flaws → AreFlawRows (take i flaws) rows → IsFlawRow (get_or flaws i d) row
    → new ≡ rows ++ row ∷ []
    → AreFlawRows (take (i + 1) flaws) new
rows_more flaws i d rows new row within are is grown =
    subst (λ l. AreFlawRows (take (i + 1) flaws) l) (sym grown)
    (subst (λ fs. AreFlawRows fs (rows ++ row ∷ [])) (sym (take_more flaws i d within))
    (one_more (take i flaws) rows (get_or flaws i d) row are is))
