-- The components of a document (CycloneDX 1.4 to 1.6, JSON schema, `component`), those in components
-- too, with what contains each.
use Rattle.std.specs.Prelude.{ℕ, zero, suc, List, [], ◌∷◌, ◌++◌, codes, Option, Some, None, is_some}
use Rattle.std.specs.Prelude.{option_and_then, if◌then◌else◌}
use Rattle.std.specs.String.{string_bytes}
use Rattle.serde_json.specs.Data.{Data, Items}
use Rattle.serde_json.specs.Find.{get, as_array}
use Rattle.serde_json.specs.View.{view}
use Rattle.desk_spdx_json.specs.Documents.{document_id}
use Rattle.desk_spdx_json.specs.Steps.{member_at}
use Rattle.desk_spdx_json.specs.Values.{items_steps, word_in}
use Rattle.desk_cyclonedx.specs.declared.placed.Placed.{Placed}
use Rattle.desk_cyclonedx.specs.Names.{component_id, place_id}

-- a component: its place, its identifier, that of what contains it, how deep others may be in it,
-- and its value
pub record PlacedText : Type 0 where
  pub at : List ℕ
  pub id : List ℕ
  pub owner : List ℕ
  pub depth : ℕ
  pub value : Data

-- the same, apart from where it is in memory
abbrev pub placed_text : Placed → PlacedText
placed_text p = record {
  at = string_bytes p.at;
  id = string_bytes p.id;
  owner = string_bytes p.owner;
  depth = p.depth;
  value = view p.value.now;
}

-- the identifier of a component
abbrev pub id_of : List ℕ → Data → List ℕ
id_of at d = if is_some (get (codes "bom-ref") d)
    then component_id (word_in (codes "bom-ref") d) else place_id at

-- a component without those in it
abbrev pub placed_here : ℕ → List ℕ → List ℕ → Data → PlacedText
placed_here depth owner at d = record {
  at = at;
  id = id_of at d;
  owner = owner;
  depth = depth;
  value = d;
}

-- the components in a list
abbrev pub listed_of : (List ℕ → Data → List PlacedText) → List ℕ → Option Items → List PlacedText
listed_of each at None = []
listed_of each at (Some ds) = items_steps each at 0 ds

-- the same, if there is such a list
abbrev pub listed_in : (List ℕ → Data → List PlacedText) → List ℕ → Option Data → List PlacedText
listed_in each at found = listed_of each at (option_and_then as_array found)

-- a component, then those in it
abbrev pub placed_from : ℕ → List ℕ → List ℕ → Data → List PlacedText
placed_from zero owner at d = placed_here zero owner at d ∷ []
placed_from (suc n) owner at d = placed_here (suc n) owner at d
    ∷ listed_in (placed_from n (id_of at d)) (member_at at (codes "components"))
    (get (codes "components") d)

-- components are at most this deep in one another: JSON isn't read that deep
abbrev pub most_deep : ℕ
most_deep = 64

-- the component that the document is about
abbrev pub root_of : Data → Option Data
root_of d = option_and_then (get (codes "component")) (get (codes "metadata") d)

-- its place
abbrev pub root_at : List ℕ
root_at = codes "/metadata/component"

-- with those in it; the document describes it
abbrev pub from_root : Option Data → List PlacedText
from_root None = []
from_root (Some d) = placed_from most_deep document_id root_at d

-- what contains the listed components: that component, or the document, which then describes them
abbrev pub owner_by : Option Data → List ℕ
owner_by None = document_id
owner_by (Some d) = id_of root_at d

-- all components of a document
abbrev pub all_placed : Data → List PlacedText
all_placed d = from_root (root_of d)
    ++ listed_in (placed_from most_deep (owner_by (root_of d))) (codes "/components")
    (get (codes "components") d)
