-- Releases that ascend, as tallies require.
use Rattle.std.proofs.Common.{◌≡◌, true, false, List, [], ◌∷◌, subst, inl, inr}
use Rattle.std.proofs.lemmas.Bool.{not-true}
use Rattle.std.specs.Prelude.{not}
use Rattle.desk_model.specs.Lists.{IsIn, over, ascends}
use Rattle.desk_model.specs.Keys.{below_by, release_below}
use Rattle.desk_model.specs.declared.row.ReleaseRow.{ReleaseRow}
use Rattle.desk_history.specs.Laws.{Ascends}
use Rattle.desk_sorted.specs.Orders.{release_order}
use Rattle.desk_base.proofs.Bools.{and_left, and_right}

none_below : (y : ReleaseRow) (rows : List ReleaseRow) → over (below_by release_order) y rows ≡ true
    → (z : ReleaseRow) → IsIn z rows → release_below z y ≡ false
none_below y [] all z is = absurd is
none_below y (x ∷ xs) all z is =
    elim is [
      | inl same ↦ subst (λ (row : ReleaseRow). release_below row y ≡ false) same
          (not-true (release_below x y) (and_left (not (release_below x y))
          (over (below_by release_order) y xs) all))
      | inr later ↦ none_below y xs
          (and_right (not (release_below x y)) (over (below_by release_order) y xs) all) z later
    ]

pub ascends_from : (rows : List ReleaseRow) → ascends (below_by release_order) rows ≡ true
    → Ascends release_below rows
ascends_from [] up = tt
ascends_from (y ∷ ys) up = (
  none_below y ys (and_left (over (below_by release_order) y ys)
      (ascends (below_by release_order) ys) up),
  ascends_from ys (and_right (over (below_by release_order) y ys)
      (ascends (below_by release_order) ys) up),
)
