-- What the values of a catalogue may be, as TOML gives them.
use Rattle.std.specs.Prelude.{ℕ, ◌&&◌, not, nat_le, Bool, List, [], ◌∷◌, length, Option, Some, None}
use Rattle.std.specs.Prelude.{option_map, option_and_then, if◌then◌else◌}
use Rattle.std.specs.List.{list_all}
use Rattle.toml.specs.Data.{Data, as_str, as_array, Items, no_items, item}
use Rattle.desk_base.specs.Idstring.{is_idstring}
use Rattle.desk_tokens.specs.Words.{begins_like_reference}
use Rattle.desk_base.specs.Limits as limit
use Rattle.desk_base.specs.Bytes.{is_shown}

-- a form, or the code of a duty: an idstring (SPDX 2.3, Annex D.2) of at most 64 bytes
abbrev pub is_id : List ℕ → Bool
is_id text = is_idstring text && nat_le (length text) limit.id_bytes

-- a title: 1 to 256 bytes without control bytes
abbrev pub is_title : List ℕ → Bool
is_title text = nat_le 1 (length text) && nat_le (length text) limit.title_bytes
    && list_all is_shown text

-- what may have a text: a licence or an exception by its id (SPDX 2.3, Annex D.2), which doesn't
-- begin like a reference
abbrev pub is_text_id : List ℕ → Bool
is_text_id text = is_idstring text && not (begins_like_reference text)

-- a text that passes a test, or none
abbrev pub if_passes : (List ℕ → Bool) → List ℕ → Option (List ℕ)
if_passes test text = if test text then Some text else None

-- a form or a code that a value is
abbrev pub id_of : Data → Option (List ℕ)
id_of d = option_and_then (if_passes is_id) (as_str d)

-- a title that a value is
abbrev pub title_of : Data → Option (List ℕ)
title_of d = option_and_then (if_passes is_title) (as_str d)

-- the texts of a list that has nothing else
abbrev pub strings : Items → Option (List (List ℕ))
strings no_items = Some []
strings (item d ds) = option_and_then (λ text. option_map (λ more. text ∷ more) (strings ds))
    (as_str d)

-- the texts of a value that is a list of texts and nothing else
abbrev pub texts_of : Data → Option (List (List ℕ))
texts_of d = option_and_then strings (as_array d)
