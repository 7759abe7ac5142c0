-- The identifiers of elements and of extracted licences (SPDX 2.3, clauses 6.3, 7.2, 8.2, 9.1 and
-- 10.1).
use Rattle.std.specs.Prelude.{ℕ, Bool, ◌&&◌, nat_eq, nat_lt, List, length, drop, codes}
use Rattle.std.specs.List.{starts_with, list_all}
use Rattle.std.specs.Str.{bytes_eq}
use Rattle.desk_base.specs.Idstring.{is_idstring_byte}

-- an idstring, as a test
abbrev pub is_id : List ℕ → Bool
is_id text = nat_lt 0 (length text) && list_all is_idstring_byte text

-- `SPDXRef-` and an idstring
abbrev pub is_element_id : List ℕ → Bool
is_element_id text = starts_with nat_eq text (codes "SPDXRef-") && is_id (drop 8 text)

-- `LicenseRef-` and an idstring
abbrev pub is_licence_id : List ℕ → Bool
is_licence_id text = starts_with nat_eq text (codes "LicenseRef-") && is_id (drop 11 text)

-- the identifier of the document itself
abbrev pub is_document_id : List ℕ → Bool
is_document_id text = bytes_eq text (codes "SPDXRef-DOCUMENT")
