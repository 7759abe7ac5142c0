use Rattle.std.proofs.Common.{refl, true}
use Rattle.desk_tree_lint.specs.Shown.{name_at}
use Rattle.desk_tree_problems.specs.Rows.{missing_row}
use Rattle.desk_tree_reports.specs.declared.telling.Telling.{Telling}
use Rattle.desk_tree_reports.proofs.TellingLemmas.{adds_one}
use Rattle.desk_tree_reports.proofs.telling.Telling.add_name.Goals as goal

pub returns : goal.returns
returns c =
    let new : Telling = record c.add_missing.new.self { later = true } in
    adds_one c.args.form (missing_row (name_at c.args.name)) c.args.self.now new
    c.in_ok-add_missing.ensures refl
