use Rattle.std.proofs.Common.{ap, take_all, ◌∙◌}
use Rattle.std.specs.List.{flat_map}
use Rattle.std.specs.String.{string_bytes}
use Rattle.desk_explain.specs.Explanations.{block}
use Rattle.desk_explain.proofs.Joined.{joined_at}
use Rattle.desk_explain.proofs.blocks.explanation.Goals as goal

pub loop-entry-preserved : goal.loop-entry-preserved
loop-entry-preserved c =
    joined_at block c.args.entries.now c.loop-entry.entry-index _ (string_bytes c.loop-entry.text)
    (string_bytes c.add_block.new.text)
    c.loop-entry-test.true c.loop-entry.invariant c.in_ok-add_block.ensures

pub returns : goal.returns
returns c = c.loop-entry.invariant
    ∙ ap (flat_map block) (take_all c.loop-entry.entry-index c.args.entries.now
    c.loop-entry-test.false)
