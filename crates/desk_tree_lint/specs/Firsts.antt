-- The first mentions of keys.
use Rattle.std.specs.Prelude.{◌≡◌, ℕ, List, Option, map, option_map}
use Rattle.std.specs.List.{flat_map}
use Rattle.std.specs.List.Sorted.{IsStrictlySortedBy}
use Rattle.std.specs.Ordering.{nat_cmp}
use Rattle.std.specs.Cmp.Lexicographic.{slice_cmp}
use Rattle.desk_tree_infos.specs.Firsts.{FirstTexts}
use Rattle.desk_tree_lint.specs.declared.naming.Asked.{Asked}
use Rattle.desk_tree_lint.specs.declared.naming.Mention.{Mention}
use Rattle.desk_tree_lint.specs.Naming.{MentionText, mentions_by, first_with}

-- a mention, apart from where it is in memory
abbrev pub mention_in : Mention → MentionText
mention_in m = record { id = m.id.now; path = m.path }

-- a key that is asked for, and its first mention
pub record AskedText : Type 0 where
  pub key : List ℕ
  pub first : Option MentionText

-- what the code keeps of a key and its first mention, with the bytes that it borrows
abbrev pub asked_in : Asked → AskedText
asked_in a = record { key = a.key.now; first = option_map mention_in a.first }

-- the keys that are asked for
abbrev pub keys_asked : List Asked → List (List ℕ)
keys_asked asked = map (λ (a : Asked). a.key.now) asked

-- keys, each with the first of these mentions that has it
abbrev pub asked_of : List (List ℕ) → List MentionText → List AskedText
asked_of keys ms = map (λ key. record { key = key; first = first_with key ms }) keys

-- the first of these mentions is kept for each of these keys, which are in order
pub record Holds (keys : List (List ℕ)) (ms : List MentionText) (asked : List Asked) : Type 0 where
  pub ordered : IsStrictlySortedBy (slice_cmp nat_cmp) keys
  pub firsts : map asked_in asked ≡ asked_of keys ms

-- the mentions in the texts that files have first
abbrev pub mentions_of : FirstTexts → List MentionText
mentions_of f = flat_map (mentions_by f.path) f.texts

-- the mentions in all such texts, file by file
abbrev pub first_mentions : List FirstTexts → List MentionText
first_mentions fs = flat_map mentions_of fs
