-- That the files of a document's packages were collected.
use Rattle.std.specs.Prelude.{◌↔◌, Contains}
use Rattle.desk_bom.specs.declared.arrows.Arrow.{Arrow}
use Rattle.desk_bom.specs.declared.contents.Contents.{Contents}
use Rattle.desk_bom.specs.Contents.{contents}
use Rattle.desk_tagvalue.specs.Parts.{DocumentText}

-- the same arrows, however often the document has them
abbrev pub Holds : DocumentText → Contents → Type 0
Holds d c = (x : Arrow) → Contains c.arrows.items x ↔ Contains (contents d) x
