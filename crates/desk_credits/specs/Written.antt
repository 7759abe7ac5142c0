-- How a credit is written as a file that fills gaps (TOML 1.0), behind comments that name the
-- notices to be checked. 10 is the line feed.
use Rattle.std.specs.Prelude.{◌≡◌, ℕ, ◌==◌, nat_le, false, List, [], ◌∷◌, ◌++◌, length, codes, decimal}
use Rattle.std.specs.Prelude.{Option, Some, None, if◌then◌else◌}
use Rattle.std.specs.List.{flat_map}
use Rattle.toml.specs.Data.{string, array, table, no_items, item, Members, no_members, member}
use Rattle.toml.specs.Text.{IsDocumentText}
use Rattle.desk_base.specs.Terminal.{shown}
use Rattle.desk_fill.specs.Reading.{most_bytes}
use Rattle.desk_fill.specs.declared.fill.Credit.{Credit}
use Rattle.desk_credits.specs.declared.notice.Notice.{Notice}
use Rattle.desk_credits.specs.declared.notice.Place.{Place}

-- ---- the text of the credit

-- a text with one more line
abbrev pub with_line : List ℕ → List ℕ → List ℕ
with_line text line = if length text == 0 then line else text ++ 10 ∷ line

-- a text with the notices on further lines
abbrev pub with_lines : List ℕ → List Notice → List ℕ
with_lines text [] = text
with_lines text (n ∷ ns) = with_lines (with_line text n.text) ns

-- the credit of a package with these notices, one a line
abbrev pub credit_for : List ℕ → Option (List ℕ) → List Notice → Credit
credit_for name version notices =
    record { name = name; version = version; text = with_lines [] notices }

-- ---- the document

-- a key for the version, unless it is any
abbrev pub version_members : Option (List ℕ) → Members
version_members None = no_members
version_members (Some version) = member (codes "version") (string version) no_members

-- the keys of a `[[credit]]`
abbrev pub credit_members : Credit → Members
credit_members credit = member (codes "package") (string credit.name)
    (member (codes "text") (string credit.text) (version_members credit.version))

-- a document with it
abbrev pub credit_document : Credit → Members
credit_document credit =
    member (codes "credit") (array (item (table (credit_members credit)) no_items)) no_members

-- ---- the comments

-- what a comment says of a place: its path and its line
abbrev pub comment : Place → List ℕ
comment place = codes "# found by pattern, to be checked: " ++ (shown place.path
    ++ (codes ":" ++ (decimal place.line ++ codes "\n")))

-- the comment on a notice, if it was found by pattern
abbrev pub comment_if : Option Place → List ℕ
comment_if None = []
comment_if (Some place) = comment place

-- the comments on all of them
abbrev pub comments : List Notice → List ℕ
comments notices = flat_map (λ (n : Notice). comment_if n.place) notices

-- ---- the file

-- the bytes of a file with the credit
abbrev pub IsCreditFile : List Notice → Credit → List ℕ → Type 0
IsCreditFile notices credit file = (text : List ℕ)
    × IsDocumentText false (credit_document credit) text × (file ≡ comments notices ++ text)

-- a file, if `--fill` takes that many bytes
abbrev pub if_fits : List ℕ → Option (List ℕ)
if_fits file = if nat_le (length file) most_bytes then Some file else None
