-- How a licence is written where it is first named, and the file that names it (SPDX 2.3, Annex D).
-- 9, 32, 40 and 41 are the tab, the space and the parentheses.
use Rattle.std.specs.Prelude.{ℕ, ◌==◌, ◌||◌, not, Bool, List, [], ◌∷◌, map, filter, codes}
use Rattle.std.specs.Prelude.{Option, Some, None, if◌then◌else◌}
use Rattle.std.specs.List.{flat_map, slice_split}
use Rattle.std.specs.Str.{bytes_eq}
use Rattle.desk_tokens.specs.Words.{without_plus}
use Rattle.desk_tree_infos.specs.declared.infos.FileInfo.{FileInfo}
use Rattle.desk_tree_lint.specs.declared.naming.Name.{Name}
use Rattle.desk_tree_lint.specs.Texts.{key_of}

-- ---- the identifiers in a licence

-- a blank or a parenthesis
abbrev pub is_separator : ℕ → Bool
is_separator byte = byte == 32 || (byte == 9 || (byte == 40 || byte == 41))

-- what is between the bytes of one value
abbrev pub cut_at : ℕ → List (List ℕ) → List (List ℕ)
cut_at byte texts = flat_map (slice_split (λ b. b == byte)) texts

-- what is between blanks and parentheses, some of it empty
abbrev pub runs : List ℕ → List (List ℕ)
runs licence = cut_at 41 (cut_at 40 (cut_at 9 (cut_at 32 (licence ∷ []))))

-- AND, OR or WITH in capitals (SPDX 2.3, Annex D.4)
abbrev pub is_operator : List ℕ → Bool
is_operator run = bytes_eq run (codes "AND")
    || (bytes_eq run (codes "OR") || bytes_eq run (codes "WITH"))

-- the identifiers of licences, references and exceptions, without a plus behind them
abbrev pub ids_in : List (List ℕ) → List (List ℕ)
ids_in listed = map without_plus (filter (λ run. not (is_operator run)) listed)

-- the identifiers in a licence in their order, some twice, and empty texts where separators meet
abbrev pub ids : List ℕ → List (List ℕ)
ids licence = ids_in (runs licence)

-- ---- where each is first

-- an identifier and the file that names it
pub record MentionText : Type 0 where
  pub id : List ℕ
  pub path : List ℕ

-- an identifier in the file with this path
abbrev pub mention : List ℕ → List ℕ → MentionText
mention path id = record { id = id; path = path }

-- the identifiers in one licence of a file
abbrev pub mentions_by : List ℕ → List ℕ → List MentionText
mentions_by path licence = map (mention path) (ids licence)

-- those in all licences of a file
abbrev pub mentions_in : FileInfo → List MentionText
mentions_in i = flat_map (mentions_by i.path) i.licences

-- those in the licences of all files, in order
abbrev pub mentions : List FileInfo → List MentionText
mentions infos = flat_map mentions_in infos

-- the first with a key
abbrev pub first_with : List ℕ → List MentionText → Option MentionText
first_with key [] = None
first_with key (n ∷ ns) = if bytes_eq (key_of n.id) key then Some n else first_with key ns

-- how a key is shown: as it was first written, with the file; or else as it is
abbrev pub name_by : List ℕ → Option MentionText → Name
name_by key (Some n) = record { id = n.id; path = Some n.path }
name_by key None = record { id = key; path = None }

-- the name of a key, by its first mention in these files
abbrev pub name_of : List FileInfo → List ℕ → Name
name_of infos key = name_by key (first_with key (mentions infos))
