use Rattle.std.proofs.Common.{sym, ap, ◌∙◌}
use Rattle.std.specs.Prelude.{map, is_some}
use Rattle.desk_tagvalue.specs.Entries.{entry_text}
use Rattle.desk_tagvalue.specs.Parts.{head_of}
use Rattle.desk_tagvalue.proofs.PartsLemmas.{head_step}
use Rattle.desk_tagvalue.proofs.parts.head_of.Goals as goal

pub loop-i-preserved : goal.loop-i-preserved
loop-i-preserved c =
    head_step c.args.entries.now c.loop-i.i _ (head_of (map entry_text c.args.entries.now))
    c.loop-i-test.true (ap is_some (sym c.section_begun.ensures) ∙ sym c.if-is_some.ensures)
    c.loop-i.invariant
