use Rattle.std.proofs.Common.{◌≡◌, map}
use Rattle.desk_texts.specs.Documents.{package_of}
use Rattle.desk_texts.specs.Shipments.{shipment_text}
use Rattle.desk_texts.proofs.document.package_copies.Given as goal

abbrev pub invariant-loop-shipment : goal.invariant-loop-shipment
invariant-loop-shipment l = l.kept.items ≡ map (λ s. package_of (shipment_text s.now)) l.yielded
