-- That the elements of a document were collected.
use Rattle.std.specs.Prelude.{◌≡◌, ℕ, List, length}
use Rattle.desk_bom.specs.declared.elements.Elements.{Elements}
use Rattle.desk_bom.specs.Elements.{element_ids, element_named, element_noted, element_count}
use Rattle.desk_tagvalue.specs.Parts.{DocumentText}

-- how many elements there are, how many of them packages and files, and the place of each
-- identifier, are as in the document
pub record Notes (d : DocumentText) (es : Elements) : Type 0 where
  pub count : element_count es ≡ length (element_ids d)
  pub packages : es.packages ≡ length d.packages
  pub files : es.files ≡ length d.files
  pub places : (id : List ℕ) → element_noted es id ≡ element_named d id
