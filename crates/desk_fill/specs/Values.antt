-- What the values of an entry may be.
use Rattle.std.specs.Prelude.{ℕ, ◌||◌, ◌&&◌, not, nat_le, Bool, false, List, length, Option, Some, None}
use Rattle.std.specs.Option.{is_none, option_map_or}
use Rattle.std.specs.Str.{bytes_eq}
use Rattle.desk_base.specs.Idstring.{is_idstring}
use Rattle.desk_tokens.specs.Words.{is_reference}
use Rattle.desk_model.specs.declared.reading.LicenceText.{LicenceText}
use Rattle.desk_fill.specs.declared.fill.Credit.{Credit}
use Rattle.desk_fill.specs.Filling.{is_nothing, is_same_name}

-- the id of a licence or an exception, or a reference (SPDX 2.3, Annex D.1 and D.2)
abbrev pub is_name : List ℕ → Bool
is_name text = is_idstring text || is_reference text

-- a text that says something
abbrev pub says_something : List ℕ → Bool
says_something text = nat_le 1 (length text) && not (is_nothing text)

-- two texts are of the same name
abbrev pub is_same_text : LicenceText → LicenceText → Bool
is_same_text a b = is_same_name a.title b.title

-- the same version, or both of any
abbrev pub is_same_version : Option (List ℕ) → Option (List ℕ) → Bool
is_same_version None b = is_none b
is_same_version (Some a) b = option_map_or (bytes_eq a) b false

-- two credits are for the same package and version
abbrev pub is_same_credit : Credit → Credit → Bool
is_same_credit a b = bytes_eq a.name b.name && is_same_version a.version b.version
