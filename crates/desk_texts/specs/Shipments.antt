-- A package and whether it ships, regardless of where it is in memory.
use Rattle.std.specs.Prelude.{Bool}
use Rattle.desk_tagvalue.specs.Parts.{PackageText}
use Rattle.desk_tagvalue.specs.Views.{package_text}
use Rattle.desk_texts.specs.declared.document.Shipment.{Shipment}

-- the package that it borrows, and its mark
abbrev pub shipment_text : Shipment → PackageText × Bool
shipment_text s = (package_text s.text.now, s.ships)
