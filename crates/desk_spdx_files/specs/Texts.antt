-- Texts in a JSON value.
use Rattle.std.specs.Prelude.{ℕ, List, [], ◌∷◌, ◌++◌, Option, option_and_then, unwrap_or}
use Rattle.serde_json.specs.Data.{Data, Items, no_items, item}
use Rattle.serde_json.specs.Find.{get, as_array, as_str}

-- a text, or an empty one if there is none
abbrev pub text_or_empty : Option (List ℕ) → List ℕ
text_or_empty text = unwrap_or text []

-- the text of a member, or an empty one
abbrev pub word_in : List ℕ → Data → List ℕ
word_in key d = text_or_empty (option_and_then as_str (get key d))

-- the items of the list in a member; none if there is no such list
abbrev pub items_of : List ℕ → Data → Items
items_of key d = unwrap_or (option_and_then as_array (get key d)) no_items

-- the texts that each of some items gives
abbrev pub texts_by : (Data → List (List ℕ)) → Items → List (List ℕ)
texts_by each no_items = []
texts_by each (item d ds) = each d ++ texts_by each ds

-- the identifier of an element; empty if it has none
abbrev pub id_in : List ℕ → Data → List (List ℕ)
id_in key d = word_in key d ∷ []

-- those of the elements in a member
abbrev pub ids_of : List ℕ → List ℕ → Data → List (List ℕ)
ids_of list key d = texts_by (id_in key) (items_of list d)

-- an identifier in a list of them
abbrev pub text_itself : Data → List (List ℕ)
text_itself d = text_or_empty (as_str d) ∷ []

-- those in a member
abbrev pub listed_in : List ℕ → Data → List (List ℕ)
listed_in list d = texts_by text_itself (items_of list d)
