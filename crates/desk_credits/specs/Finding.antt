-- The notices that a file has by pattern, in the order of its lines.
use Rattle.std.specs.Prelude.{◌≡◌, ℕ, Bool, true, false, List, [], Option, Some, option_map}
use Rattle.std.specs.List.{filter_map}
use Rattle.std.specs.Str.{is_utf8}
use Rattle.desk_base.specs.Lines.{LineText, CutsInto}
use Rattle.desk_credits.specs.declared.notice.Notice.{Notice}
use Rattle.desk_credits.specs.declared.notice.Place.{Place}
use Rattle.desk_credits.specs.Patterns.{notice_in}

-- a line of a file
abbrev pub place_of : List ℕ → ℕ → Place
place_of path line = record { path = path; line = line }

-- a notice that was found there by pattern
abbrev pub found_notice : Place → List ℕ → Notice
found_notice place text = record { text = text; place = Some place }

-- the notice of a line
abbrev pub found_at : List ℕ → LineText → Option Notice
found_at path line = option_map (found_notice (place_of path line.number)) (notice_in line.text)

-- the notices of some lines
abbrev pub found_on : List ℕ → List LineText → List Notice
found_on path lines = filter_map (found_at path) lines

-- those of bytes that are UTF-8, or none
abbrev pub FindsIf : Bool → List ℕ → List ℕ → List Notice → Type 0
FindsIf false path bytes found = found ≡ []
FindsIf true path bytes found = (lines : List LineText) × CutsInto 1 bytes lines
    × (found ≡ found_on path lines)

-- the notices of a file's lines
abbrev pub FindsIn : List ℕ → List ℕ → List Notice → Type 0
FindsIn path bytes found = FindsIf (is_utf8 bytes) path bytes found
