-- Each duty is counted once, by its state.
use Rattle.std.proofs.Common.{◌≡◌, ◌+◌, cond, List, [], ◌∷◌, length, refl, arith}
use Rattle.std.specs.Prelude.{count_by}
use Rattle.std.proofs.lemmas.List.Sums.{sum_by-cons}
use Rattle.desk_model.specs.States.{is_open, is_met, is_waived, is_withdrawn}
use Rattle.desk_model.specs.declared.row.DutyRow.{DutyRow}
use Rattle.desk_model.specs.declared.state.DutyState.{DutyState}
use Rattle.desk_model.specs.declared.state.DutyState.TheVariants as stands

one_place : (s : DutyState) → cond (is_open s) 1 0 + cond (is_met s) 1 0 + cond (is_waived s) 1 0
    + cond (is_withdrawn s) 1 0 ≡ 1
one_place stands.IsOpen = refl
one_place stands.Met = refl
one_place stands.Waived = refl
one_place stands.Withdrawn = refl

pub conserved : (rows : List DutyRow)
    → length rows ≡ count_by (λ row. is_open row.state) rows
    + count_by (λ row. is_met row.state) rows + count_by (λ row. is_waived row.state) rows
    + count_by (λ row. is_withdrawn row.state) rows
conserved [] = refl
conserved (row ∷ rows) =
    omega (
      arith,
      conserved rows,
      one_place row.state,
      sum_by-cons (λ (r : DutyRow). cond (is_open r.state) 1 0) row rows,
      sum_by-cons (λ (r : DutyRow). cond (is_met r.state) 1 0) row rows,
      sum_by-cons (λ (r : DutyRow). cond (is_waived r.state) 1 0) row rows,
      sum_by-cons (λ (r : DutyRow). cond (is_withdrawn r.state) 1 0) row rows,
    )
