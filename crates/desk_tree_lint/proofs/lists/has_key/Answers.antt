use Rattle.std.proofs.Common.{◌∙◌}
use Rattle.desk_tree_lint.proofs.OrderLemmas.{halved}
use Rattle.desk_tree_lint.proofs.lists.has_key.Goals as goal

pub returns : goal.returns
returns c = λ up. c.is_ok.ensures.value
    ∙ halved c.args.keys.now c.args.key c.binary_search.result up c.binary_search.ensures.bound
    c.binary_search.ensures.position
