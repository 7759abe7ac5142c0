use Rattle.std.proofs.Common.{◌∙◌, ◌++◌, map, refl, subst}
use Rattle.std.proofs.lemmas.Result.{on_ok_weaker}
use Rattle.desk_tree_problems.specs.Rows.{AreFlawRows, dep5_rows, blank_row, unused_row, bare_row, list_rows}
use Rattle.desk_tree_reports.specs.Telling.{AddsRows}
use Rattle.desk_tree_reports.proofs.TellingLemmas.{adds_all}
use Rattle.desk_tree_reports.proofs.telling.add_problems.Goals as goal

pub returns : goal.returns
returns c =
    let p = c.args.problems.now in
    let form = c.args.form in
    let flaws = c.in_ok-add_flaws.ensures in
    let told = flaws.0 in
    on_ok_weaker c.add_bare.result (λ bare. (
      dep5_rows p.dep5 ++ (told ++ list_rows p),
      (told, subst (λ fs. AreFlawRows fs told) c.as_slice-2.ensures flaws.1, refl),
      adds_all form p told c.args.telling.now c.add_rows.new.telling c.add_flaws.new.telling
          c.add_blanks.new.telling c.add_missing.new.telling c.add_unused.new.telling
          c.add_bare.new.telling
          (subst (λ rows. AddsRows form rows c.args.telling.now c.add_rows.new.telling)
          (c.as_slice.ensures.value ∙ c.in_ok-rows.ensures) c.in_ok-add_rows.ensures)
          flaws.2
          (subst (λ l. AddsRows form (map blank_row l) c.add_flaws.new.telling
          c.add_blanks.new.telling) c.as_slice-3.ensures c.in_ok-add_blanks.ensures)
          c.in_ok-add_missing.ensures
          (subst (λ l. AddsRows form (map unused_row l) c.add_missing.new.telling
          c.add_unused.new.telling) c.as_slice-4.ensures c.in_ok-add_unused.ensures)
          (subst (λ l. AddsRows form (map bare_row l) c.add_unused.new.telling
          c.add_bare.new.telling) c.as_slice-5.ensures bare),
    )) c.add_bare.ensures
