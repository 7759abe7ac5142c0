use Rattle.std.proofs.Common.{refl, true}
use Rattle.desk_tree_reports.specs.declared.telling.Telling.{Telling}
use Rattle.desk_tree_reports.proofs.TellingLemmas.{adds_one}
use Rattle.desk_tree_reports.proofs.telling.Telling.add_row.Goals as goal

pub returns : goal.returns
returns c =
    let new : Telling = record c.add_text.new.self { later = true } in
    adds_one c.args.form c.args.row.now c.args.self.now new c.in_ok-add_text.ensures refl
