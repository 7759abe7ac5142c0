-- Texts of several lines as a terminal shows them.
use Rattle.std.specs.Prelude.{ℕ, ◌==◌, Bool, List, [], ◌∷◌, if◌then◌else◌}
use Rattle.std.specs.List.{flat_map}
use Rattle.std.specs.Str.{chars}
use Rattle.desk_base.specs.Terminal.{shown_char}

-- a line feed ends its line; any other character is as a terminal shows it
abbrev pub line_char : ℕ → List ℕ
line_char c = if c == 10 then 10 ∷ [] else shown_char c

-- each character of a text as a terminal shows it
unfoldable pub lines_shown : List ℕ → List ℕ
lines_shown text = flat_map line_char (chars text)

-- on a terminal what it shows, and else the text as it is
abbrev pub text_on : Bool → List ℕ → List ℕ
text_on is_terminal text = if is_terminal then lines_shown text else text
