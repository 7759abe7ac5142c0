use Rattle.std.proofs.Common.{◌∙◌, sym}
use Rattle.desk_line.proofs.RowLemmas.{named_behind, named_here}
use Rattle.desk_line.proofs.subcommands.kind_named.Goals as goal

pub loop-row-preserved : goal.loop-row-preserved
loop-row-preserved c =
    sym (named_behind c.args.name.now c.args.rows.now c.loop-row.row-index _ c.loop-row-test.true
    (sym c.if-eq.ensures)) ∙ c.loop-row.invariant

pub returns-then-eq : goal.returns-then-eq
returns-then-eq c =
    sym (named_here c.args.name.now c.args.rows.now c.loop-row.row-index _ c.loop-row-test.true
    (sym c.if-eq.ensures)) ∙ c.loop-row.invariant
