-- Texts as a terminal shows them. Control characters are those of the general category Cc (The
-- Unicode Standard, 4.5): U+0000 to U+001F and U+007F to U+009F. The characters that set the
-- direction of a text are those of the Unicode Bidirectional Algorithm (Unicode Standard Annex 9, 2):
-- the marks U+061C, U+200E and U+200F, the embeddings and overrides U+202A to U+202E, and the
-- isolates U+2066 to U+2069.
use Rattle.std.specs.Prelude.{ℕ, ◌==◌, ◌||◌, Bool, List, codes, if◌then◌else◌}
use Rattle.std.specs.Char.{encode_utf8, is_control}
use Rattle.std.specs.Int.{is_in_range}
use Rattle.std.specs.List.{flat_map}
use Rattle.std.specs.Str.{chars}

-- a character that sets the direction of a text
abbrev pub is_bidirectional : ℕ → Bool
is_bidirectional c = c == 0x061C || is_in_range 0x200E 0x200F c || is_in_range 0x202A 0x202E c
    || is_in_range 0x2066 0x2069 c

-- what isn't shown: control characters, and those that set a direction
abbrev pub is_hidden : ℕ → Bool
is_hidden c = is_control c || is_bidirectional c

-- a question mark for such a character
abbrev pub shown_char : ℕ → List ℕ
shown_char c = if is_hidden c then codes "?" else encode_utf8 c

-- each character as a terminal shows it, so that a text can't end its line, change a terminal or
-- look like another text
unfoldable pub shown : List ℕ → List ℕ
shown text = flat_map shown_char (chars text)
