use Rattle.std.proofs.Common.{[]}
use Rattle.desk_tree_reports.proofs.TellingLemmas.{begun}
use Rattle.desk_tree_reports.proofs.telling.with_problems.Goals as goal

pub returns : goal.returns
returns c =
    let added = c.in_ok-add_problems.ensures in
    let start = begun c.args.form c.args.text c.behind-telling.result c.behind-telling.ensures.text
    c.behind-telling.ensures.later in
    (added.0, added.1, (added.2 c.args.text [] start).text)
