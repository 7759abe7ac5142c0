use Rattle.std.proofs.Common.{◌∙◌}
use Rattle.desk_texts.specs.Documents.{package_of}
use Rattle.desk_texts.specs.Shipments.{shipment_text}
use Rattle.desk_texts.proofs.Halving.{lent_sorted}
use Rattle.desk_texts.proofs.document.packages_of.Goals as goal

pub returns : goal.returns
returns c = c.in_ok-kept.ensures
    ∙ lent_sorted shipment_text package_of (λ m. m.0.id) c.args.shipments.now
    c.in_ok-sorted.sorted.items c.in_ok-sorted.ensures
