use Rattle.std.proofs.Common.{◌≡◌, ◌++◌, drop}
use Rattle.std.specs.Prelude.{map}
use Rattle.desk_tagvalue.specs.Views.{package_text}
use Rattle.desk_texts.specs.Documents.{marked}
use Rattle.desk_texts.specs.Shipments.{shipment_text}
use Rattle.desk_texts.proofs.document.shipments.Given as goal

abbrev pub invariant-loop-text : goal.invariant-loop-text
invariant-loop-text l = map shipment_text l.found.items
    ++ marked (map package_text (drop l.text-index l.packages)) l.rest
    ≡ marked (map package_text l.packages) l.marks
