-- The texts that the files of a folder give, each named after what it is a text of, as the SPDX
-- project's list of texts has them and the folder `LICENSES/` (REUSE Specification 3.3, "License
-- Files"). 47 is `/`.
use Rattle.std.specs.Prelude.{◌≡◌, ℕ, ◌==◌, not, false, true, Bool, List, [], ◌∷◌, ◌++◌}
use Rattle.std.specs.Prelude.{Option, Some, None, Result, Ok, Err, if◌then◌else◌}
use Rattle.std.specs.List.{list_any}
use Rattle.std.specs.Option.{option_or}
use Rattle.std.specs.Str.{is_utf8}
use Rattle.desk_fill.specs.Values.{is_name, is_same_text, says_something}
use Rattle.desk_model.specs.declared.reading.LicenceText.{LicenceText}
use Rattle.desk_tree_gather.specs.declared.files.SourceFile.{SourceFile}
use Rattle.desk_tree_lint.specs.Texts.{stem}
use Rattle.desk_entries.specs.declared.sifting.Reason.{Reason}
use Rattle.desk_entries.specs.declared.sifting.Reason.TheVariants.{BadName, NotUtf8, Nothing, Twice}
use Rattle.desk_entries.specs.declared.sifting.Sifted.{Sifted}

-- a file of the folder itself, not of one in it
abbrev pub is_direct : List ℕ → Bool
is_direct path = not (list_any (λ b. b == 47) path)

-- what a file is a text of, and the text: all its bytes
abbrev pub text_of : SourceFile → LicenceText
text_of file = record { title = stem file.path; body = file.bytes }

-- why a file is no text, if it is none
abbrev pub own_reason : SourceFile → Option Reason
own_reason file =
    if not (is_name (stem file.path)) then Some BadName
    else if not (is_utf8 file.bytes) then Some NotUtf8
    else if not (says_something file.bytes) then Some Nothing
    else None

-- why a text is left out beside these, if one of them is of the same name
abbrev pub if_repeated : Bool → Option Reason
if_repeated is = if is then Some Twice else None

-- why a file is left out beside these texts, if it is
abbrev pub reason_for : List LicenceText → SourceFile → Option Reason
reason_for texts file = option_or (own_reason file)
    (if_repeated (list_any (is_same_text (text_of file)) texts))

-- a file is this text, or is left out for this reason
abbrev pub Reads : SourceFile → Result LicenceText Reason → Type 0
Reads file (Ok text) = (own_reason file ≡ None) × (text ≡ text_of file)
Reads file (Err reason) = own_reason file ≡ Some reason

-- what was sifted, and one more file of the folder: a text, or left out
abbrev pub with_file : Sifted → SourceFile → Option Reason → Sifted
with_file sifted file None = record sifted { texts = sifted.texts ++ text_of file ∷ [] }
with_file sifted file (Some reason) =
    record sifted { left = sifted.left ++ record { path = file.path; reason = reason } ∷ [] }

-- the same; a file of a folder in it is passed over
abbrev pub with_one : Sifted → SourceFile → Sifted
with_one sifted file = if is_direct file.path
    then with_file sifted file (reason_for sifted.texts file) else sifted

-- the same for several, in their order
abbrev pub with_files : Sifted → List SourceFile → Sifted
with_files sifted [] = sifted
with_files sifted (file ∷ files) = with_files (with_one sifted file) files

-- the texts of a folder, and the files that are left out
abbrev pub sifted : List SourceFile → Sifted
sifted files = with_files (record { texts = []; left = [] }) files

-- texts as `--fill` takes them behind others: each for a name, with something to say, and for no
-- name twice
abbrev pub AreEntries : List LicenceText → List LicenceText → Type 0
AreEntries before [] = Unit {0}
AreEntries before (text ∷ texts) = (is_name text.title ≡ true) × (says_something text.body ≡ true)
    × (list_any (is_same_text text) before ≡ false) × AreEntries (before ++ text ∷ []) texts
