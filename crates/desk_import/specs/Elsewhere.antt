-- The elements of other documents that ship with a document. Which relationships ship is this
-- project's own rule (`desk_bom`).
use Rattle.std.specs.Prelude.{ℕ, ◌+◌, ◌-◌, ◌==◌, ◌&&◌, ◌||◌, nat_eq, Bool, false, List, [], ◌∷◌}
use Rattle.std.specs.Prelude.{Option, Some, None, codes, slice_index_or, if◌then◌else◌}
use Rattle.std.specs.List.{filter_map, starts_with}
use Rattle.desk_base.specs.TextSets.{is_among}
use Rattle.desk_bom.specs.Elements.{element_named}
use Rattle.desk_bom.specs.Shipping.{ships_left, ships_right}
use Rattle.desk_tagvalue.specs.Parts.{DocumentText, EdgeText}

-- an element of another document, which a relationship names behind that document's reference
-- (SPDX 2.3, clauses 6.6 and 11.1)
abbrev pub is_elsewhere : List ℕ → Bool
is_elsewhere id = starts_with nat_eq id (codes "DocumentRef-")

-- the document itself ships, at place 0; behind it are its packages, each with its mark; files and
-- snippets have none
abbrev pub has_mark : List Bool → Option ℕ → Bool
has_mark marks None = false
has_mark marks (Some a) = a == 0 || slice_index_or marks (a - 1) false

-- an element of another document, if it ships with one that ships
abbrev pub elsewhere_behind : DocumentText → List Bool → List ℕ → List ℕ → Option (List ℕ)
elsewhere_behind d marks from to =
    if is_elsewhere to && has_mark marks (element_named d from) then Some to else None

-- the element of another document that ships by a relationship
abbrev pub elsewhere_in : DocumentText → List Bool → EdgeText → Option (List ℕ)
elsewhere_in d marks e =
    if ships_right e.kind then elsewhere_behind d marks e.left e.right
    else (if ships_left e.kind then elsewhere_behind d marks e.right e.left
    else None)

-- those of all relationships, in the order of the text
abbrev pub elsewhere_ids : DocumentText → List Bool → List (List ℕ)
elsewhere_ids d marks = filter_map (elsewhere_in d marks) d.edges

-- 1 for a text that isn't among these
abbrev pub if_new : List (List ℕ) → List ℕ → ℕ
if_new before text = if is_among before text then 0 else 1

-- how many texts of a list are neither among these nor before it in the list
abbrev pub count_new : List (List ℕ) → List (List ℕ) → ℕ
count_new before [] = 0
count_new before (text ∷ texts) = if_new before text + count_new (text ∷ before) texts

-- how many elements of other documents ship, each counted once
abbrev pub elsewhere_count : DocumentText → List Bool → ℕ
elsewhere_count d marks = count_new [] (elsewhere_ids d marks)
