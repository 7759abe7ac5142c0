use Rattle.desk_tree_annotations.proofs.SkipLemmas.{skips, skips_none}
use Rattle.desk_tree_annotations.proofs.skipping.skip.Goals as goal

pub returns : goal.returns
returns c =
    skips c.args.clear c.args.line c.args.bytes.now c.before_start.result.now
    c.whole_lines-lines.result.now c.line_feeds.result c.requires.within
    c.before_start.ensures.front c.before_start.ensures.quiet c.whole_lines-lines.ensures.front
    c.whole_lines-lines.ensures.whole c.line_feeds.ensures.value

pub returns-then-clear-lt-NEAR : goal.returns-then-clear-lt-NEAR
returns-then-clear-lt-NEAR c = skips_none c.args.clear c.args.line c.args.bytes.now
