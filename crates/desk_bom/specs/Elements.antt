-- The elements of a document (SPDX 2.3, clauses 6 to 9), each identified by its place: the document
-- itself, the packages, the files, the snippets.
use Rattle.std.specs.Prelude.{ℕ, List, ◌∷◌, ◌++◌, map, Option, codes}
use Rattle.desk_bom.specs.declared.elements.Elements.{Elements}
use Rattle.desk_bom.specs.Places.{place_of}
use Rattle.desk_tagvalue.specs.Parts.{DocumentText}
use Rattle.desk_base.specs.Borrowed.{texts}

-- the identifiers of the packages, in the order of the document
abbrev pub package_ids : DocumentText → List (List ℕ)
package_ids d = map (λ p. p.id) d.packages

-- the identifiers of the files, in the order of the document
abbrev pub file_ids : DocumentText → List (List ℕ)
file_ids d = map (λ f. f.id) d.files

-- the identifiers of the snippets, in the order of the document
abbrev pub snippet_ids : DocumentText → List (List ℕ)
snippet_ids d = map (λ s. s.id) d.snippets

-- the identifiers of all elements
abbrev pub element_ids : DocumentText → List (List ℕ)
element_ids d = codes "SPDXRef-DOCUMENT" ∷ (package_ids d ++ (file_ids d ++ snippet_ids d))

-- the element that an identifier names
abbrev pub element_named : DocumentText → List ℕ → Option ℕ
element_named d id = place_of id (element_ids d)

-- the element that an identifier names, by what was collected of a document
abbrev pub element_noted : Elements → List ℕ → Option ℕ
element_noted es id = place_of id (texts es.places.ids.items)

-- how many elements were collected, the document itself included
abbrev pub element_count : Elements → ℕ
element_count es = es.count
