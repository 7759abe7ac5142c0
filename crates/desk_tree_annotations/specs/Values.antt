-- What the values of an annotation's keys may be, as TOML gives them (REUSE Specification 3.3,
-- "REUSE.toml").
use Rattle.std.specs.Prelude.{ℕ, ◌==◌, ℤ, pos, negsuc, Bool, false, List, [], ◌∷◌, codes, Option}
use Rattle.std.specs.Prelude.{Some, None, option_map, option_and_then, if◌then◌else◌}
use Rattle.std.specs.Str.{bytes_eq}
use Rattle.toml.specs.Data.{Data, as_str, as_integer, as_array, Items, no_items, item}
use Rattle.desk_tree_annotations.specs.declared.annotation.Precedence.{Precedence}
use Rattle.desk_tree_annotations.specs.declared.annotation.Precedence.TheVariants.{Closest, Aggregate, Override}

-- the whole number 1
abbrev pub is_one : Option ℤ → Bool
is_one None = false
is_one (Some (pos n)) = n == 1
is_one (Some (negsuc n)) = false

-- the value of `version` is the whole number 1, the only version there is
abbrev pub is_version : Option Data → Bool
is_version value = is_one (option_and_then as_integer value)

-- the texts of a list that holds nothing else
abbrev pub strings : Items → Option (List (List ℕ))
strings no_items = Some []
strings (item d ds) = option_and_then (λ text. option_map (λ more. text ∷ more) (strings ds))
    (as_str d)

-- a text as the only one, or the texts of a list; nothing for a value of another kind
abbrev pub one_or_listed : Option (List ℕ) → Option Items → Option (List (List ℕ))
one_or_listed (Some text) values = Some (text ∷ [])
one_or_listed None values = option_and_then strings values

-- the texts of a value: itself, or a list of texts
abbrev pub texts_of : Data → Option (List (List ℕ))
texts_of d = one_or_listed (as_str d) (as_array d)

-- a key that is absent has none
abbrev pub texts_at : Option Data → Option (List (List ℕ))
texts_at None = Some []
texts_at (Some d) = texts_of d

-- a precedence that is absent is `closest`
abbrev pub precedence_text : Option Data → Option (List ℕ)
precedence_text None = Some (codes "closest")
precedence_text (Some d) = as_str d

-- which precedence a text names, byte by byte; any other text names none
abbrev pub precedence_of : List ℕ → Option Precedence
precedence_of text =
    if bytes_eq text (codes "closest") then Some Closest
    else (if bytes_eq text (codes "aggregate") then Some Aggregate
    else (if bytes_eq text (codes "override") then Some Override
    else None))
