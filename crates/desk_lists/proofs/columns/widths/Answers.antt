use Rattle.std.proofs.Common.{◌≡◌, ℕ, ◌+◌, ◌<◌, ◌∙◌, List, length, get_or, ap, ap₂, drop, sym}
use Rattle.std.proofs.lemmas.List.{at_drop_all}
use Rattle.desk_base.proofs.Lists.{drop_item}
use Rattle.desk_lists.specs.Columns.{widths_with}
use Rattle.desk_report.specs.Columns.{widened}
use Rattle.desk_lists.proofs.columns.widths.Goals as goal

-- one more row
widened_more : (rows : List (List (List ℕ))) (i : ℕ) (row cells : List (List ℕ))
    (before known after all : List ℕ) → i < length rows
    → row ≡ get_or rows i row → widths_with before (drop i rows) ≡ all → known ≡ before
    → cells ≡ row → after ≡ widened known cells
    → widths_with after (drop (i + 1) rows) ≡ all
widened_more rows i row cells before known after all inside at so_far same given made =
    ap (λ (ws : List ℕ). widths_with ws (drop (i + 1) rows)) (made ∙ ap₂ widened same given)
    ∙ ap (widths_with before) (sym (drop_item rows i row inside at)) ∙ so_far

pub loop-row-preserved : goal.loop-row-preserved
loop-row-preserved c =
    widened_more _ c.loop-row.row-index c.row-item.result _ c.loop-row.found.items _ _ _
    c.loop-row-test.true c.row-item.is c.loop-row.invariant
    c.as_slice-in-loop-row.ensures.value c.as_slice-in-loop-row-2.ensures
    c.in_ok-found-in-len1-up-2.ensures

pub returns-after-loop-row : goal.returns-after-loop-row
returns-after-loop-row c =
    sym (at_drop_all (widths_with c.loop-row.found.items) _ c.loop-row.row-index
    c.loop-row-test.false) ∙ c.loop-row.invariant
