use Rattle.std.proofs.Common.{◌≡◌, ◌++◌, take}
use Rattle.std.specs.Prelude.{map}
use Rattle.std.specs.List.{flat_map}
use Rattle.desk_tagvalue.specs.Parts.{DocumentText}
use Rattle.desk_tagvalue.specs.Views.{edge_text}
use Rattle.desk_bom.specs.Notes.{Notes}
use Rattle.desk_findings.specs.Findings.{edge_findings}
use Rattle.desk_findings.proofs.missing.add_dangling.Given as goal

abbrev pub invariant-loop-edge : goal.invariant-loop-edge
invariant-loop-edge l = (d : DocumentText) → Notes d l.elements
    → l.found.items ≡ l.fn.found.items
    ++ flat_map (edge_findings d) (map edge_text (take l.edge-index l.edges))
