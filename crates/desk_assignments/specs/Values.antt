-- The value that an assignment gives to its key.
use Rattle.std.specs.Prelude.{ℕ, ◌==◌, ◌||◌, Bool, List, map, codes, Option, Some, None}
use Rattle.std.specs.Prelude.{if◌then◌else◌}
use Rattle.std.specs.List.{slice_split}
use Rattle.std.specs.Str.{bytes_eq}
use Rattle.serde_json.specs.Data.{Data, Items, number, unsigned, string, array}
use Rattle.serde_json.specs.View.{items_of}
use Rattle.desk_line.specs.Numbers.{number_written}

-- the number if the text writes one, or else the text itself, which no key for numbers takes
abbrev pub number_if : Option ℕ → List ℕ → Data
number_if None text = string text
number_if (Some n) text = number (unsigned n)

-- a number below 2 ^ 64 in decimal digits or, if the text isn't one, the text
abbrev pub number_or_text : List ℕ → Data
number_or_text text = number_if (number_written 64 text) text

-- texts as the items of a list; an empty part is an empty text
abbrev pub text_items : List (List ℕ) → Items
text_items parts = items_of (map string parts)

-- the parts of a text between commas, as a list
abbrev pub text_list : List ℕ → Data
text_list text = array (text_items (slice_split (λ b. b == 44) text))

-- whether the value of a key is a number
abbrev pub is_number_key : List ℕ → Bool
is_number_key key = bytes_eq key (codes "document") || bytes_eq key (codes "duty")
    || bytes_eq key (codes "profile")

-- the value that a text is for a key
abbrev pub assigned_value : List ℕ → List ℕ → Data
assigned_value key text = if is_number_key key then number_or_text text
    else if bytes_eq key (codes "terms") then text_list text else string text
