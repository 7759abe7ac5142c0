-- The tags of a file's runs, and their values (REUSE Specification 3.3, comment headers).
use Rattle.std.specs.Prelude.{◌⊎◌, ◌≡◌, ◌≢◌, ◌<◌, ℕ, List, [], ◌∷◌, ◌++◌, length, codes, Option, Some, None, IsUtf8}
use Rattle.desk_fields.specs.Text.{trim_end, trimmed}
use Rattle.desk_tree_annotations.specs.declared.tags.Tagged.{Tagged}
use Rattle.desk_tree_annotations.specs.Runs.{Lacks, IsUpTo, RunText, Shows}

-- the tag of a copyright notice; the notice follows on the same line
abbrev pub notice_tag : List ℕ
notice_tag = codes "SPDX-FileCopyrightText:"

-- the tag of a licence expression
abbrev pub licence_tag : List ℕ
licence_tag = codes "SPDX-License-Identifier:"

-- the end of a comment
abbrev pub IsClose : List ℕ → Type 0
IsClose c = (c ≡ codes "*/") ⊎ ((c ≡ codes "-->") ⊎ ((c ≡ codes "*)") ⊎ (c ≡ codes "-}")))

-- a text without one end of a comment at its end, and the blanks before that
abbrev pub IsBare : List ℕ → List ℕ → Type 0
IsBare text value =
    ((front : List ℕ) × (close : List ℕ) × IsClose close × (text ≡ front ++ close)
    × (value ≡ trim_end front))
    ⊎ (((front close : List ℕ) → IsClose close → text ≡ front ++ close → ⊥) × (value ≡ text))

-- the first tag of a text, and what follows it
pub record HasTag (tag text after : List ℕ) : Type 0 where
  pub before : List ℕ
  pub cut : text ≡ before ++ (tag ++ after)
  pub first : IsUpTo tag before

-- what a tag gives: the value after it, and nothing if that is empty or isn't UTF-8
abbrev pub Tells : List ℕ → Option (List ℕ) → Type 0
Tells after None = (value : List ℕ) × IsBare (trimmed after) value
    × (0 < length value → IsUtf8 value → ⊥)
Tells after (Some value) = IsBare (trimmed after) value × (0 < length value) × IsUtf8 value

-- a run on the last line that had its tag, or a run without a tag, doesn't count; any other gives
-- what its first tag does
abbrev pub Counts : List ℕ → ℕ → RunText → Option (Option (List ℕ)) → Type 0
Counts tag seen run None = (run.line ≡ seen) ⊎ Lacks tag run.text
Counts tag seen run (Some o) = (after : List ℕ) × (run.line ≢ seen) × HasTag tag run.text after
    × Tells after o

-- the last line that had its tag
abbrev pub seen_after : ℕ → ℕ → Option (Option (List ℕ)) → ℕ
seen_after seen line None = seen
seen_after seen line (Some o) = line

-- a tag's value, apart from where it is in memory
pub record TagText : Type 0 where
  pub line : ℕ
  pub value : List ℕ

-- the tag that the code keeps, with the value that it borrows
abbrev pub tag_text : Tagged → TagText
tag_text t = record { line = t.line; value = t.value.now }

-- a list with what a run gives before it
abbrev pub onto : ℕ → Option (Option (List ℕ)) → List TagText → List TagText
onto line None tags = tags
onto line (Some None) tags = tags
onto line (Some (Some value)) tags = record { line = line; value = value } ∷ tags

-- the values of a tag that runs give, in order, if this line is the last that had its tag (0: none
-- had)
abbrev pub Gives : List ℕ → ℕ → List RunText → List TagText → Type 0
Gives tag seen [] tags = tags ≡ []
Gives tag seen (run ∷ runs) tags =
    (o : Option (Option (List ℕ))) × (more : List TagText) × Counts tag seen run o
    × (tags ≡ onto run.line o more)
    × Gives tag (seen_after seen run.line o) runs more

-- the notices and the licences of a file
abbrev pub IsInfo : List ℕ → List TagText → List TagText → Type 0
IsInfo file notices licences = (runs : List RunText) × Shows 1 file runs
    × Gives notice_tag 0 runs notices × Gives licence_tag 0 runs licences
