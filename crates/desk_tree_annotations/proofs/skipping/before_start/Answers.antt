use Rattle.std.proofs.Common.{arith}
use Rattle.desk_tree_annotations.specs.Runs.{start}
use Rattle.desk_tree_annotations.proofs.SkipLemmas.{before_lacks}
use Rattle.desk_tree_annotations.proofs.skipping.before_start.Goals as goal

pub returns-in-Some-clause-quiet : goal.returns-in-Some-clause-quiet
returns-in-Some-clause-quiet c = before_lacks start c.in-Some.before.now (omega arith)
    c.in-Some.ensures.first
