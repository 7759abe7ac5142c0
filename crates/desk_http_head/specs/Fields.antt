-- What the fields of a head say about the body (RFC 9112, sections 6.1 and 6.2).
use Rattle.std.specs.Prelude.{ℕ, ◌+◌, ◌-◌, ◌*◌, ◌||◌, ◌&&◌, ◌==◌, nat_lt, nat_le, Bool, false, List}
use Rattle.std.specs.Prelude.{[], ◌∷◌, length, map, codes, if◌then◌else◌, Option, Some, None}
use Rattle.std.specs.Char.{is_ascii_digit, to_ascii_lowercase}
use Rattle.std.specs.Str.{bytes_eq}
use Rattle.desk_http_head.specs.declared.fields.BodyLength.{BodyLength}
use Rattle.desk_http_head.specs.declared.fields.BodyLength.TheVariants.{Unsaid, Bytes, Bad}

-- the name and the value of a field
abbrev pub Field : Type 0
Field = List ℕ × List ℕ

-- no field says how long the body is
abbrev pub unsaid : BodyLength
unsaid = Unsaid

-- names compare without case (RFC 9110, section 5.1)
abbrev pub is_named : List ℕ → List ℕ → Bool
is_named wanted name = bytes_eq (map to_ascii_lowercase name) (map to_ascii_lowercase wanted)

-- a field of this name is there, whatever its value
abbrev pub has_field : List ℕ → List Field → Bool
has_field name [] = false
has_field name (field ∷ fields) = is_named name field.0 || has_field name fields

-- the number with the digits of a number and then these
abbrev pub number_from : ℕ → List ℕ → Option ℕ
number_from n [] = Some n
number_from n (c ∷ cs) = if is_ascii_digit c then number_from (n * 10 + (c - 48)) cs else None

-- the number that is written in 1 to 18 digits
abbrev pub number_text : List ℕ → Option ℕ
number_text text = if nat_lt 0 (length text) && nat_le (length text) 18 then number_from 0 text
    else None

-- a length that a field gives, after what the fields before it gave: two different lengths are bad
abbrev pub agreed : BodyLength → Option ℕ → BodyLength
agreed said None = Bad
agreed Unsaid (Some n) = Bytes n
agreed (Bytes m) (Some n) = if m == n then Bytes m else Bad
agreed Bad (Some n) = Bad

-- what is known of the body's length after one more field
abbrev pub after_field : BodyLength → Field → BodyLength
after_field said field = if is_named (codes "content-length") field.0
    then agreed said (number_text field.1) else said

-- what the fields `Content-Length` say, after what was said before
abbrev pub length_from : BodyLength → List Field → BodyLength
length_from said [] = said
length_from said (field ∷ fields) = length_from (after_field said field) fields
