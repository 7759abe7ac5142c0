use Rattle.std.proofs.Common.{◌+◌}
use borrow.Author.Tests.{eqb-true}
use Rattle.desk_tree_annotations.proofs.SkipLemmas.{whole_upto, rest_of}
use Rattle.desk_tree_annotations.proofs.skipping.whole_lines.Goals as goal

pub returns-in-Some-clause-front : goal.returns-in-Some-clause-front
returns-in-Some-clause-front c = rest_of (c.in-Some.at + 1) c.args.bytes.now

pub returns-in-Some-clause-whole : goal.returns-in-Some-clause-whole
returns-in-Some-clause-whole c = whole_upto c.args.bytes.now c.in-Some.at c.in-Some.ensures.0.high
    (eqb-true _ _ c.in-Some.ensures.1)
