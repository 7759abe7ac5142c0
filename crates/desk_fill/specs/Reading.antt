-- What a file says, or its first fault: the texts before the credits, each entry as a whole before
-- the next one: first an absent key, then a value of another kind, then what it names and says,
-- then what stands twice.
use Rattle.std.specs.Prelude.{ℕ, ◌+◌, nat_lt, nat_le, List, [], ◌∷◌, ◌++◌, length, codes}
use Rattle.std.specs.Prelude.{Option, Some, None, Result, Ok, Err, not, if◌then◌else◌}
use Rattle.std.specs.List.{list_any}
use Rattle.std.specs.Option.{ok_or, option_map_or}
use Rattle.std.specs.Str.{is_utf8}
use Rattle.toml.specs.Data.{Data, as_str, as_array, as_table, get_member, Items, no_items, item, Members}
use Rattle.toml.specs.Parse.{parse_document}
use Rattle.desk_base.specs.Results.{then_read}
use Rattle.desk_model.specs.declared.reading.LicenceText.{LicenceText}
use Rattle.desk_fill.specs.declared.fault.Flaw.{Flaw}
use Rattle.desk_fill.specs.declared.fault.Flaw.TheVariants.{TooLarge, NotUtf8, NotToml, NoList}
use Rattle.desk_fill.specs.declared.fault.Flaw.TheVariants.{Missing, BadKind, BadName, Nothing, Twice}
use Rattle.desk_fill.specs.declared.fault.Part.{Part}
use Rattle.desk_fill.specs.declared.fault.Part.TheVariants as part
use Rattle.desk_fill.specs.declared.fill.Credit.{Credit}
use Rattle.desk_fill.specs.declared.fill.Fill.{Fill}
use Rattle.desk_fill.specs.Values.{is_name, is_same_credit, is_same_text, says_something}

-- something, or its fault
abbrev pub Read : Type 0 → Type 0
Read A = Result A Flaw

-- ---- limits

-- the bytes of a file, and the entries of a part
abbrev pub most_bytes : ℕ
most_bytes = 4194304

-- the most texts or credits that one file may have
abbrev pub most_entries : ℕ
most_entries = 10000

-- ---- lists

-- each value in turn, with its index, is added to what those before it gave; or the first fault
abbrev pub each : {S : Type 0} → (S → ℕ → Data → Read S) → S → ℕ → Items → Read S
each put state index no_items = Ok state
each put state index (item d ds) = then_read (put state index d)
    (λ next. each put next (index + 1) ds)

-- how many there are
abbrev pub count : Items → ℕ
count no_items = 0
count (item d ds) = count ds + 1

-- the tables of a part, at most so many; a part that is absent has none
abbrev pub if_few : Part → Items → Read Items
if_few p ds = if nat_le (count ds) most_entries then Ok ds else Err (NoList p)

-- the entries of a part; a part that is absent has none, and one that is no list is a fault
abbrev pub tables_of : Part → Option Data → Read Items
tables_of p None = Ok no_items
tables_of p (Some d) = then_read (ok_or (as_array d) (NoList p)) (if_few p)

-- ---- texts of licences, exceptions and references

-- a text with its title, if the title is a name and the text says something
abbrev pub text_of : ℕ → List ℕ → List ℕ → Read LicenceText
text_of index licence body =
    if not (is_name licence) then Err (BadName index)
    else if not (says_something body) then Err (Nothing part.Text index)
    else Ok (record { title = licence; body = body })

-- the same, if both values are texts
abbrev pub text_of_values : ℕ → Option (List ℕ) → Option (List ℕ) → Read LicenceText
text_of_values index (Some licence) (Some body) = text_of index licence body
text_of_values index (Some licence) None = Err (BadKind part.Text index)
text_of_values index None body = Err (BadKind part.Text index)

-- the same, if both keys are there: an absent key comes before a value of another kind
abbrev pub text_of_keys : ℕ → Option Data → Option Data → Read LicenceText
text_of_keys index (Some licence) (Some body) = text_of_values index (as_str licence) (as_str body)
text_of_keys index (Some licence) None = Err (Missing part.Text index)
text_of_keys index None body = Err (Missing part.Text index)

-- the text that a `[[text]]` table has
abbrev pub text_at : ℕ → Data → Read LicenceText
text_at index d = then_read (ok_or (as_table d) (BadKind part.Text index))
    (λ ms. text_of_keys index (get_member (codes "licence") ms) (get_member (codes "body") ms))

-- the texts so far, with one more
abbrev pub with_one_text : List LicenceText → ℕ → LicenceText → Read (List LicenceText)
with_one_text texts index text = if list_any (is_same_text text) texts
    then Err (Twice part.Text index) else Ok (texts ++ text ∷ [])

-- the texts so far, with that of one more table
abbrev pub with_text : List LicenceText → ℕ → Data → Read (List LicenceText)
with_text texts index d = then_read (text_at index d) (with_one_text texts index)

-- all texts of a file; a title twice is a fault
abbrev pub texts_of : Option Data → Read (List LicenceText)
texts_of texts = then_read (tables_of part.Text texts) (each with_text [] 0)

-- ---- credits of packages

-- a version, or none for any
abbrev pub version_of : ℕ → Option Data → Read (Option (List ℕ))
version_of index None = Ok None
version_of index (Some d) =
    option_map_or (λ version. Ok (Some version)) (as_str d) (Err (BadKind part.Credit index))

-- a credit, if its text says something; it is for a version, or for any without one
abbrev pub credit_of : ℕ → List ℕ → List ℕ → Option (List ℕ) → Read Credit
credit_of index name text version = if says_something text
    then Ok (record { name = name; version = version; text = text })
    else Err (Nothing part.Credit index)

-- the same, if the values are texts
abbrev pub credit_of_values : ℕ → Option (List ℕ) → Option (List ℕ) → Option Data → Read Credit
credit_of_values index (Some name) (Some text) version =
    then_read (version_of index version) (credit_of index name text)
credit_of_values index (Some name) None version = Err (BadKind part.Credit index)
credit_of_values index None text version = Err (BadKind part.Credit index)

-- the same, if the name and the text are there
abbrev pub credit_of_keys : ℕ → Option Data → Option Data → Option Data → Read Credit
credit_of_keys index (Some name) (Some text) version =
    credit_of_values index (as_str name) (as_str text) version
credit_of_keys index (Some name) None version = Err (Missing part.Credit index)
credit_of_keys index None text version = Err (Missing part.Credit index)

-- the credit that a `[[credit]]` table has
abbrev pub credit_at : ℕ → Data → Read Credit
credit_at index d = then_read (ok_or (as_table d) (BadKind part.Credit index))
    (λ ms. credit_of_keys index (get_member (codes "package") ms) (get_member (codes "text") ms)
    (get_member (codes "version") ms))

-- the credits so far, with one more
abbrev pub with_one_credit : List Credit → ℕ → Credit → Read (List Credit)
with_one_credit credits index credit = if list_any (is_same_credit credit) credits
    then Err (Twice part.Credit index) else Ok (credits ++ credit ∷ [])

-- the credits so far, with that of one more table
abbrev pub with_credit : List Credit → ℕ → Data → Read (List Credit)
with_credit credits index d = then_read (credit_at index d) (with_one_credit credits index)

-- all credits of a file; one name and version twice is a fault
abbrev pub credits_of : Option Data → Read (List Credit)
credits_of credits = then_read (tables_of part.Credit credits) (each with_credit [] 0)

-- ---- the whole

-- what the tables of a file say: its texts are read before its credits
abbrev pub fill_of_table : Members → Read Fill
fill_of_table ms =
    then_read (texts_of (get_member (codes "text") ms)) (λ texts.
    then_read (credits_of (get_member (codes "credit") ms)) (λ credits.
    Ok (record { texts = texts; credits = credits })))

-- what a text of TOML says
abbrev pub fill_of_text : List ℕ → Read Fill
fill_of_text text = then_read (ok_or (parse_document text) NotToml) fill_of_table

-- what the bytes of a file say: their number first, then whether they are UTF-8, then TOML
abbrev pub fill_of : List ℕ → Read Fill
fill_of bytes =
    if nat_lt most_bytes (length bytes) then Err TooLarge
    else if not (is_utf8 bytes) then Err NotUtf8
    else fill_of_text bytes
