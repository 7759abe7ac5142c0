-- The lines of releases are the same whatever the order of the duties.
use Rattle.std.proofs.Common.{◌≡◌, ℕ, List, [], ◌∷◌, refl, ap₂, map, ◌∙◌}
use Rattle.std.specs.Prelude.{IsPermutation}
use Rattle.desk_model.specs.declared.state.DutyState.{DutyState}
use Rattle.desk_model.specs.declared.state.DutyState.TheVariants as state
use Rattle.desk_snapshot.specs.declared.rows.StoredDuty.{StoredDuty}
use Rattle.desk_snapshot.specs.declared.rows.StoredRelease.{StoredRelease}
use Rattle.desk_lists.specs.Releases.{is_duty_in, is_duty_of, release_line, totals_among}
use Rattle.desk_lists.specs.declared.lines.ReleaseLine.{ReleaseLine}
use Rattle.desk_lists.proofs.Counting.{count_by-permutation}

module _ (duties others : List StoredDuty) (same : IsPermutation duties others) where
  totals : (release : List ℕ) → totals_among others release ≡ totals_among duties release
  totals release =
      let all = count_by-permutation (is_duty_of release) duties others same in
      let part = λ (s : DutyState). count_by-permutation (is_duty_in release s) duties others
      same in
      cc (all, part state.IsOpen, part state.Met, part state.Waived, part state.Withdrawn)

  line : (row : StoredRelease) → release_line others row ≡ release_line duties row
  line row = cc (totals row.name)

  lines : (rows : List StoredRelease)
      → map (release_line others) rows ≡ map (release_line duties) rows
  lines [] = refl
  lines (row ∷ rows) = ap₂ (λ x xs. x ∷ xs) (line row) (lines rows)

pub lines-permutation : (duties others : List StoredDuty) (rows : List StoredRelease)
    (found : List ReleaseLine) → IsPermutation duties others
    → found ≡ map (release_line others) rows → found ≡ map (release_line duties) rows
lines-permutation duties others rows found same e = e ∙ lines duties others same rows
