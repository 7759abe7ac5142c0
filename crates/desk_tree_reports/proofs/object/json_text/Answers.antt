use Rattle.std.proofs.Common.{◌∙◌, ◌++◌}
use Rattle.desk_tree_reports.proofs.ItemLemmas.{json_is}
use Rattle.desk_tree_reports.proofs.object.json_text.Goals as goal

pub returns : goal.returns
returns c =
    let front = c.add.new.self in
    let told = c.in_ok-text.ensures in
    let is = c.in_ok-add.ensures ∙ (λ j. c.new-text.ensures j ++ c.as_bytes.ensures.value j)
    ∙ c.in_ok-front.ensures.ok in (
      told.0,
      told.1,
      json_is told.0 c.args.problems.now.covered front c.in_ok-text.text
          c.add-2.new.self is told.2 c.in_ok-add-2.ensures,
    )
