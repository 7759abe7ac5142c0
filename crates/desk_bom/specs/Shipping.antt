-- The packages that a document ships. The types of relationships are those of SPDX 2.3, clause
-- 11.1; which of them ship is this project's own rule.
use Rattle.std.specs.Prelude.{◌≡◌, ℕ, ◌+◌, ◌==◌, ◌&&◌, ◌||◌, not, nat_le, Bool, true, false, List}
use Rattle.std.specs.Prelude.{[], length, filter, map, Option, Some, None, codes, if◌then◌else◌}
use Rattle.std.specs.Prelude.{slice_index_or}
use Rattle.std.specs.List.{list_any, filter_map, range_with_len}
use Rattle.std.specs.List.Sorted.{IsPermutation, IsSorted}
use Rattle.std.specs.Ordering.{nat_cmp}
use Rattle.std.specs.Cmp.Lexicographic.{slice_cmp}
use Rattle.std.specs.Str.{bytes_eq}
use Rattle.desk_bom.specs.declared.arrows.Arrow.{Arrow}
use Rattle.desk_bom.specs.Elements.{package_ids, element_named}
use Rattle.desk_bom.specs.Marks.{IsLeastFrom}
use Rattle.desk_tagvalue.specs.Parts.{DocumentText, EdgeText}

-- what the left element describes, contains, depends on or links ships with it
abbrev pub ships_right : List ℕ → Bool
ships_right kind =
    bytes_eq kind (codes "DESCRIBES") || bytes_eq kind (codes "CONTAINS")
    || bytes_eq kind (codes "DEPENDS_ON")
    || bytes_eq kind (codes "STATIC_LINK") || bytes_eq kind (codes "DYNAMIC_LINK")

-- the left element ships with the right one, which it is described by, contained by or a dependency
-- of
abbrev pub ships_left : List ℕ → Bool
ships_left kind =
    bytes_eq kind (codes "DESCRIBED_BY") || bytes_eq kind (codes "CONTAINED_BY")
    || bytes_eq kind (codes "DEPENDENCY_OF") || bytes_eq kind (codes "RUNTIME_DEPENDENCY_OF")

-- from one element to another, if both are there
abbrev pub arrow_between : Option ℕ → Option ℕ → Option Arrow
arrow_between (Some a) (Some b) = Some (record { from = a; to = b })
arrow_between _ _ = None

-- from which element to which a relationship ships, if both are elements of the document
abbrev pub shipping_arrow : DocumentText → EdgeText → Option Arrow
shipping_arrow d e =
    if ships_right e.kind then arrow_between (element_named d e.left) (element_named d e.right)
    else (if ships_left e.kind then arrow_between (element_named d e.right) (element_named d e.left)
    else None)

-- those of all relationships, in the order of the text
abbrev pub shipping_arrows : DocumentText → List Arrow
shipping_arrows d = filter_map (shipping_arrow d) d.edges

-- a relationship in which the document itself, at place 0, is on either side
abbrev pub touches_document : Option Arrow → Bool
touches_document None = false
touches_document (Some x) = x.from == 0 || x.to == 0

-- the relationship says that the document describes an element
abbrev pub describes : DocumentText → EdgeText → Bool
describes d e =
    (bytes_eq e.kind (codes "DESCRIBES") || bytes_eq e.kind (codes "DESCRIBED_BY"))
    && touches_document (arrow_between (element_named d e.left) (element_named d e.right))

-- some relationship says what the document describes
abbrev pub is_described : DocumentText → Bool
is_described d = list_any (describes d) d.edges

-- the document itself; and each package, if nothing is described
abbrev pub is_start : DocumentText → ℕ → Bool
is_start d a = a == 0 || not (is_described d) && nat_le 1 a && nat_le a (length d.packages)

-- the places of the packages that ship
pub record AreShipped (d : DocumentText) (places : List ℕ) : Type 0 where
  -- the least set of elements that has the starts and is closed under the shipping relationships
  pub set : ℕ → Bool
  pub least : IsLeastFrom (is_start d) (shipping_arrows d) set
  -- the packages in it, each once
  pub each : IsPermutation (filter (λ k. set (k + 1)) (range_with_len 0 (length d.packages))) places
  -- by their identifiers
  pub ordered : IsSorted (λ j k. slice_cmp nat_cmp (slice_index_or (package_ids d) j [])
      (slice_index_or (package_ids d) k [])) places

-- for each package, in the order of the document, whether it ships
pub record AreShippingMarks (d : DocumentText) (marks : List Bool) : Type 0 where
  pub set : ℕ → Bool
  pub least : IsLeastFrom (is_start d) (shipping_arrows d) set
  pub are : marks ≡ map (λ k. set (k + 1)) (range_with_len 0 (length d.packages))
