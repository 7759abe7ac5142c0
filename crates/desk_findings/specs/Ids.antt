-- The ids of packages by their places.
use Rattle.std.specs.Prelude.{ℕ, List, [], slice_index_or}
use Rattle.desk_bom.specs.Elements.{package_ids}
use Rattle.desk_tagvalue.specs.Parts.{DocumentText}

-- the id of the package at a place in the document, from 0
abbrev pub id_at : DocumentText → ℕ → List ℕ
id_at d k = slice_index_or (package_ids d) k []
