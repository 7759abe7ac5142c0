-- The requests that make choices, as lines of a script.
use Rattle.std.specs.Prelude.{◌++◌, ℕ, List, codes, map}
use Rattle.std.specs.List.{flat_map}
use Rattle.serde_json.specs.Data.{Data, number, unsigned, string, array, object, no_members, member}
use Rattle.serde_json.specs.View.{items_of}
use Rattle.serde_json.specs.Written.{compact_text}
use Rattle.desk_wanting.specs.declared.sole_choice.SoleChoice.{SoleChoice}

-- the texts as a list
abbrev pub text_list : List (List ℕ) → Data
text_list texts = array (items_of (map string texts))

-- the request for a choice in a release
abbrev pub choose_request : List ℕ → SoleChoice → Data
choose_request release c = object
    (member (codes "do") (string (codes "choose"))
    (member (codes "document") (number (unsigned c.document))
    (member (codes "package") (string c.package_id)
    (member (codes "release") (string release)
    (member (codes "terms") (text_list c.terms) no_members)))))

-- the request as a line
abbrev pub choice_line : List ℕ → SoleChoice → List ℕ
choice_line release c = compact_text (choose_request release c) ++ codes "\n"

-- the lines of choices in a release, in their order
abbrev pub choice_lines_text : List ℕ → List SoleChoice → List ℕ
choice_lines_text release choices = flat_map (choice_line release) choices
