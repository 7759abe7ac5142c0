-- The titles of duties in the catalogue in force. This is the last one of its table, which is in
-- the order of revisions.
use Rattle.std.specs.Prelude.{ℕ, ◌-◌, Bool, List, [], Option, codes, find, length, option_map}
use Rattle.std.specs.Prelude.{option_and_then, slice_get}
use Rattle.std.specs.List.{cons_option}
use Rattle.std.specs.Option.{option_map_or}
use Rattle.std.specs.Str.{bytes_eq}
use Rattle.toml.specs.Data.{Data, Items, Members, as_array, as_str, as_table, get_member, item, no_items}
use Rattle.toml.specs.Parse.{parse_document}
use Rattle.desk_snapshot.specs.declared.snapshot.Snapshot.{Snapshot}
use Rattle.desk_lists.specs.declared.titles.Title.{Title}

-- the text at a key of a table; nothing if the key is missing or has another kind of value
abbrev pub text_at : List ℕ → Members → Option (List ℕ)
text_at key ms = option_and_then as_str (get_member key ms)

-- the title of a code
abbrev pub titled : List ℕ → List ℕ → Title
titled code title = record { code = code; title = title }

-- the title in a table of a code and a title
abbrev pub title_in : Members → Option Title
title_in ms = option_and_then (λ code. option_map (titled code) (text_at (codes "title") ms))
    (text_at (codes "code") ms)

-- the title in an entry of a catalogue, if that is a table with both
abbrev pub title_of : Data → Option Title
title_of d = option_and_then title_in (as_table d)

-- the titles of entries, in order; an entry without one is left out
abbrev pub titles_of : Items → List Title
titles_of no_items = []
titles_of (item d ds) = cons_option (title_of d) (titles_of ds)

-- the titles of the duties in a catalogue
abbrev pub titles_in : Members → List Title
titles_in ms = option_map_or titles_of (option_and_then as_array (get_member (codes "duty") ms)) []

-- the titles in the text of a catalogue (TOML 1.0); none if it isn't TOML
abbrev pub catalogue_titles : List ℕ → List Title
catalogue_titles text = option_map_or titles_in (parse_document text) []

-- the titles of the last revision; none if there is no revision
abbrev pub titles_in_force : Snapshot → List Title
titles_in_force snapshot = option_map_or (λ row. catalogue_titles row.body)
    (slice_get snapshot.catalogue (length snapshot.catalogue - 1)) []

-- the title of this code, compared byte by byte
abbrev pub is_title_of : List ℕ → Title → Bool
is_title_of code row = bytes_eq row.code code

-- the title of a code among some titles, or an empty text
abbrev pub title_among : List ℕ → List Title → List ℕ
title_among code titles = option_map_or (λ row. row.title) (find (is_title_of code) titles) []
