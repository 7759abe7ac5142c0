-- The identifiers that are made of names and references: an idstring has letters, digits, hyphens
-- and full stops (SPDX 2.3, Annex D.2).
use Rattle.std.specs.Prelude.{ℕ, Bool, ◌&&◌, ◌||◌, ◌==◌, ◌-◌, not, List, [], ◌∷◌, ◌++◌, codes, length, take}
use Rattle.std.specs.Prelude.{Option, Some, None, slice_index, if◌then◌else◌}
use Rattle.std.specs.List.{flat_map}
use Rattle.hex.specs.Hex.{encode_lower}
use Rattle.sha1.specs.Sha1.{sha1}
use Rattle.desk_base.specs.Idstring.{is_idstring, is_idstring_byte}

-- a letter, a digit or a full stop
abbrev pub is_plain : ℕ → Bool
is_plain b = is_idstring_byte b && not (b == 45)

-- any other byte as a hyphen and two hexadecimal digits, so that distinct texts stay distinct
abbrev pub escaped_byte : ℕ → List ℕ
escaped_byte b = if is_plain b then b ∷ [] else 45 ∷ encode_lower (b ∷ [])

-- a text as an idstring
abbrev pub escaped : List ℕ → List ℕ
escaped text = flat_map escaped_byte text

-- the identifier of the component with a `bom-ref`
abbrev pub component_id : List ℕ → List ℕ
component_id ref = codes "SPDXRef-Component-" ++ escaped ref

-- the identifier of a component without one, from its place
abbrev pub place_id : List ℕ → List ℕ
place_id at = codes "SPDXRef-At-" ++ escaped at

-- an SPDX licence identifier may have a plus sign at its end (Annex D.2)
abbrev pub is_licence_id : List ℕ → Bool
is_licence_id text = is_idstring text
    || slice_index text (length text - 1) == 43 && is_idstring (take (length text - 1) text)

-- the reference to a licence by its name and, if it is given, its text: licences of one name with
-- distinct texts are distinct, by the SHA-1 of the text
abbrev pub reference_of : List ℕ → Option (List ℕ) → List ℕ
reference_of name None = codes "LicenseRef-" ++ escaped name
reference_of name (Some text) = (codes "LicenseRef-" ++ escaped name)
    ++ (codes "--" ++ encode_lower (sha1 text))
