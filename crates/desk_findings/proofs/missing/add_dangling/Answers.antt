use Rattle.std.proofs.Common.{refl}
use Rattle.desk_tagvalue.specs.Views.{edge_text}
use Rattle.desk_findings.specs.Findings.{edge_findings}
use Rattle.desk_findings.proofs.FindingLemmas.{gathered_more, noted_as}
use Rattle.desk_findings.proofs.missing.add_dangling.Goals as goal

pub loop-edge-preserved : goal.loop-edge-preserved
loop-edge-preserved c = λ d notes.
    gathered_more edge_text (edge_findings d) c.args.edges.now c.loop-edge.edge-index _
    c.args.found.now.items c.loop-edge.found.items c.note.new.found.items c.loop-edge-test.true
    (c.loop-edge.invariant d notes)
    (noted_as c.loop-edge.found.items c.note.new.found.items _ _ _ _ _ c.in_ok-note.ensures
    (c.is_dangling.ensures d notes) refl)
