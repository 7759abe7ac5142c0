-- What the bytes of a file look like that a desk reads as no document: by how they begin, behind a
-- byte order mark and blanks, and by a word among the first 4,096 bytes from there on.
use Rattle.std.specs.Prelude.{ℕ, Bool, ◌==◌, ◌||◌, ◌&&◌, List, [], ◌∷◌, ◌++◌, take, codes, nat_eq}
use Rattle.std.specs.Prelude.{Option, None, Some, if◌then◌else◌}
use Rattle.std.specs.List.{starts_with}
use Rattle.desk_fields.specs.Cutting.{behind_mark}
use Rattle.desk_looks.specs.declared.look.Look.{Look}
use Rattle.desk_looks.specs.declared.look.Look.TheVariants as looks
use Rattle.desk_looks.specs.declared.rows.Row.{Row}

-- ---- the bytes that are looked at

-- a space, a tab, or a byte of a line's end
abbrev pub is_blank : ℕ → Bool
is_blank b = b == 32 || b == 9 || b == 10 || b == 13

-- what follows the blanks at the start
abbrev pub behind_blanks : List ℕ → List ℕ
behind_blanks [] = []
behind_blanks (b ∷ bytes) = if is_blank b then behind_blanks bytes else b ∷ bytes

-- the first bytes behind a byte order mark and blanks
abbrev pub head_of : List ℕ → List ℕ
head_of bytes = take 4096 (behind_blanks (behind_mark bytes))

-- a word is somewhere in bytes
abbrev pub has_word : List ℕ → List ℕ → Bool
has_word word [] = starts_with nat_eq [] word
has_word word (b ∷ bytes) = starts_with nat_eq (b ∷ bytes) word || has_word word bytes

-- ---- the table

-- how the bytes begin, a word in them, and what they look like, if that is to be said
pub record RowText : Type 0 where
  pub start : List ℕ
  pub word : List ℕ
  pub look : Option Look

-- a row of the code's table, apart from where its bytes are in memory
abbrev pub row_text : Row → RowText
row_text r = record { start = r.start.now; word = r.word.now; look = r.look }

-- bytes that begin so, and have this word, look like this
abbrev pub looks_like : List ℕ → List ℕ → Look → RowText
looks_like start word look = record { start = start; word = word; look = Some look }

-- and those look like nothing else, so that later rows say nothing of them
abbrev pub looks_like_none : List ℕ → List ℕ → RowText
looks_like_none start word = record { start = start; word = word; look = None }

-- the first two bytes of a gzip file (RFC 1952, section 2.3.1)
abbrev pub gzip_start : List ℕ
gzip_start = 31 ∷ 139 ∷ []

-- the signature of the first entry of a ZIP archive (APPNOTE.TXT, section 4.3.7)
abbrev pub zip_start : List ℕ
zip_start = codes "PK" ++ 3 ∷ 4 ∷ []

-- the table; the first row that holds counts
abbrev pub look_rows : List RowText
look_rows =
    looks_like gzip_start [] looks.Gzip
    ∷ looks_like zip_start (codes "xl/") looks.Spreadsheet
    ∷ looks_like zip_start (codes "vnd.oasis.opendocument.spreadsheet") looks.Spreadsheet
    ∷ looks_like zip_start [] looks.Zip
    ∷ looks_like (codes "<") (codes "http://cyclonedx.org/schema/bom/") looks.CycloneDxXml
    ∷ looks_like (codes "<") (codes "http://spdx.org/rdf/terms") looks.SpdxRdf
    ∷ looks_like (codes "<") (codes "<SPDXID>") looks.SpdxXml
    ∷ looks_like (codes "<") (codes "<spdxVersion>") looks.SpdxXml
    ∷ looks_like_none (codes "<") []
    ∷ looks_like (codes "{") (codes "spdx.org/rdf/3") looks.Spdx3
    ∷ looks_like_none (codes "{") []
    ∷ looks_like_none (codes "[") []
    ∷ looks_like_none [] (codes "SPDXVersion:")
    ∷ looks_like [] (codes "spdxVersion: ") looks.SpdxYaml
    ∷ looks_like [] (codes "creationInfo:") looks.SpdxYaml
    ∷ looks_like [] (codes "MIT License") looks.LicenceText
    ∷ looks_like [] (codes "Apache License") looks.LicenceText
    ∷ looks_like [] (codes "GENERAL PUBLIC LICENSE") looks.LicenceText
    ∷ looks_like [] (codes "Permission is hereby granted") looks.LicenceText
    ∷ looks_like [] (codes "Redistribution and use in source") looks.LicenceText
    ∷ []

-- ---- what bytes look like

-- a row holds for bytes
abbrev pub is_row : List ℕ → RowText → Bool
is_row head row = starts_with nat_eq head row.start && has_word row.word head

-- what the first row that holds says
abbrev pub look_in : List ℕ → List RowText → Option Look
look_in head [] = None
look_in head (row ∷ rows) = if is_row head row then row.look else look_in head rows

-- what a file looks like
unfoldable pub look_of : List ℕ → Option Look
look_of bytes = look_in (head_of bytes) look_rows
