-- How entries are written as a file that fills gaps (TOML 1.0).
use Rattle.std.specs.Prelude.{ℕ, ◌&&◌, nat_le, false, List, [], ◌∷◌, length, codes}
use Rattle.std.specs.Prelude.{Option, Some, None, if◌then◌else◌}
use Rattle.toml.specs.Data.{string, array, table, Items, no_items, item, Members, no_members, member}
use Rattle.toml.specs.Text.{IsDocumentText}
use Rattle.desk_fill.specs.Reading.{most_bytes, most_entries}
use Rattle.desk_model.specs.declared.reading.LicenceText.{LicenceText}

-- the keys of a `[[text]]`
abbrev pub text_members : LicenceText → Members
text_members text = member (codes "body") (string text.body)
    (member (codes "licence") (string text.title) no_members)

-- the tables of some texts
abbrev pub text_items : List LicenceText → Items
text_items [] = no_items
text_items (text ∷ texts) = item (table (text_members text)) (text_items texts)

-- a document with them
abbrev pub text_document : List LicenceText → Members
text_document texts = member (codes "text") (array (text_items texts)) no_members

-- the bytes of such a document
abbrev pub IsTextFile : List LicenceText → List ℕ → Type 0
IsTextFile texts text = IsDocumentText false (text_document texts) text

-- a file, if `--fill` takes that many entries and bytes
abbrev pub if_fits : ℕ → List ℕ → Option (List ℕ)
if_fits count text = if nat_le count most_entries && nat_le (length text) most_bytes
    then Some text else None
