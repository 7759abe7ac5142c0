-- Relationships (SPDX 2.3, clause 11.1): an element, a type and an element, which are runs between
-- blanks.
use Rattle.std.specs.Prelude.{ℕ, Bool, ◌||◌, ◌&&◌, ◌==◌, nat_eq, nat_lt, nat_le, List, length, drop, codes}
use Rattle.std.specs.List.{starts_with, list_all, before_first, after_first}
use Rattle.std.specs.Str.{bytes_eq}
use Rattle.std.specs.Char.{is_ascii_alphanumeric}
use Rattle.desk_fields.specs.Text.{skip_blanks, first_word, after_word}
use Rattle.desk_tagvalue.specs.Ids.{is_element_id}

-- a letter, a digit, `.`, `-` or `+` (clause 6.6)
abbrev pub is_document_byte : ℕ → Bool
is_document_byte b = is_ascii_alphanumeric b || b == 46 || b == 45 || b == 43

-- the colon between a document's name and an element of it
abbrev pub is_colon : ℕ → Bool
is_colon b = b == 58

-- one or more such bytes
abbrev pub is_document_name : List ℕ → Bool
is_document_name text = list_all is_document_byte text && nat_lt 0 (length text)

-- a document's name, a colon and an element's identifier
abbrev pub is_qualified : List ℕ → Bool
is_qualified text = is_document_name (before_first is_colon text)
    && is_element_id (after_first is_colon text)

-- an element of another document: `DocumentRef-` and the document's name, a colon, the element's
-- identifier
abbrev pub is_external : List ℕ → Bool
is_external text = starts_with nat_eq text (codes "DocumentRef-") && is_qualified (drop 12 text)

-- what may be on the left
abbrev pub is_end : List ℕ → Bool
is_end text = is_element_id text || is_external text

-- what may be on the right
abbrev pub is_target : List ℕ → Bool
is_target text = is_end text || bytes_eq text (codes "NONE") || bytes_eq text (codes "NOASSERTION")

-- a capital or `_`
abbrev pub is_kind_byte : ℕ → Bool
is_kind_byte b = nat_le 65 b && nat_le b 90 || b == 95

-- capitals and underscores
abbrev pub is_kind : List ℕ → Bool
is_kind text = list_all is_kind_byte text && nat_lt 0 (length text)

-- a relationship's words, in order
abbrev pub left_word : List ℕ → List ℕ
left_word value = first_word value

-- the second word, the relationship's type; empty if there is none
abbrev pub kind_word : List ℕ → List ℕ
kind_word value = first_word (after_word value)

-- the third word; empty if there is none
abbrev pub right_word : List ℕ → List ℕ
right_word value = first_word (after_word (after_word value))

-- the three words, and no more
abbrev pub is_relationship : List ℕ → Bool
is_relationship value =
    is_end (left_word value) && is_kind (kind_word value) && is_target (right_word value)
    && length (skip_blanks (after_word (after_word (after_word value)))) == 0
