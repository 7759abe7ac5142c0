-- Fields whose tags are read.
use Rattle.std.specs.Prelude.{◌≡◌, ℕ, List, [], ◌∷◌, map, Option, Some, None, Ok, if◌then◌else◌}
use denote.Ref.{Bor}
use Rattle.desk_fields.specs.declared.tag.Tag.{Tag}
use Rattle.desk_fields.specs.Tags.{tag_of, same_tag}
use Rattle.desk_fields.specs.Cutting.{FieldText, Reads, behind_mark}
use Rattle.desk_tagvalue.specs.declared.entries.Entry.{Entry}

-- a field whose tag is read, apart from where it is in memory
pub record EntryText : Type 0 where
  pub line : ℕ
  pub tag : Tag
  pub value : List ℕ

-- the value that an entry borrows, with its line and its tag
abbrev pub entry_text : Entry → EntryText
entry_text e = record { line = e.line; tag = e.tag; value = e.value.now }

-- a field, its tag read
abbrev pub read_entry : FieldText → EntryText
read_entry f = record { line = f.line; tag = tag_of f.tag; value = f.value }

-- the fields of a text, with their tags read
abbrev pub AreEntries : List ℕ → List EntryText → Type 0
AreEntries text es = (fs : List FieldText) × Reads 1 (behind_mark text) (Ok fs)
    × (es ≡ map read_entry fs)

-- the bytes of a text, if there is one
abbrev pub value_text : Option (Bor (List ℕ)) → Option (List ℕ)
value_text None = None
value_text (Some v) = Some v.now

-- the value of the first field with a tag
abbrev pub value_of : Tag → List EntryText → Option (List ℕ)
value_of tag [] = None
value_of tag (e ∷ es) = if same_tag e.tag tag then Some e.value else value_of tag es
