-- A text as HTML shows it (the HTML standard, 3.2.5.2.5 and 13.1.4). 34 is `"`, 38 `&`, 39 `'`, 60
-- `<` and 62 `>`.
use Rattle.std.specs.Prelude.{◌≡◌, ℕ, ◌%◌, ◌==◌, ◌&&◌, ◌||◌, nat_le, not, Bool, false, List, []}
use Rattle.std.specs.Prelude.{◌∷◌, ◌++◌, codes, if◌then◌else◌}
use Rattle.std.specs.Char.{encode_utf8, is_ascii_whitespace, is_control}
use Rattle.std.specs.List.{flat_map}
use Rattle.std.specs.Str.{chars}
use Rattle.desk_base.specs.Terminal.{is_bidirectional}

-- one of U+FDD0 to U+FDEF, or one of the last two in each 65,536
abbrev pub is_noncharacter : ℕ → Bool
is_noncharacter c = (nat_le 64976 c && nat_le c 65007) || nat_le 65534 (c % 65536)

-- what a text of a page doesn't contain: control characters other than white space, noncharacters,
-- and characters that set a direction, so that no text looks like another
abbrev pub is_barred : ℕ → Bool
is_barred c = (is_control c && not (is_ascii_whitespace c)) || is_noncharacter c
    || is_bidirectional c

-- U+FFFD replaces a character that is barred, and a reference one that has a meaning in HTML
abbrev pub shown_char : ℕ → List ℕ
shown_char c =
    if c == 38 then codes "&amp;"
    else if c == 60 then codes "&lt;"
    else if c == 62 then codes "&gt;"
    else if c == 34 then codes "&quot;"
    else if c == 39 then codes "&#39;"
    else if is_barred c then encode_utf8 65533
    else encode_utf8 c

-- a text as the bytes of a page show it, character by character
unfoldable pub escaped : List ℕ → List ℕ
escaped text = flat_map shown_char (chars text)

-- the bytes that have a meaning in HTML
abbrev pub is_markup : ℕ → Bool
is_markup b = b == 38 || b == 60 || b == 62 || b == 34 || b == 39

-- bytes that contain no markup: references, and bytes that have no meaning in HTML
pub data IsInert : List ℕ → Type 0 where
  nothing : IsInert []
  plain : (b : ℕ) (bs : List ℕ) → is_markup b ≡ false → IsInert bs → IsInert (b ∷ bs)
  ampersand : (bs : List ℕ) → IsInert bs → IsInert (codes "&amp;" ++ bs)
  less : (bs : List ℕ) → IsInert bs → IsInert (codes "&lt;" ++ bs)
  greater : (bs : List ℕ) → IsInert bs → IsInert (codes "&gt;" ++ bs)
  quote : (bs : List ℕ) → IsInert bs → IsInert (codes "&quot;" ++ bs)
  apostrophe : (bs : List ℕ) → IsInert bs → IsInert (codes "&#39;" ++ bs)

-- ---- reading it again

-- what a page has instead of a character that is barred
abbrev pub page_char : ℕ → ℕ
page_char c = if is_barred c then 65533 else c

-- characters of a page as the text that HTML takes them for (13.1.4 and 13.5): a reference is the
-- character that it names, any other character that is no markup is itself
pub data IsReadAs : List ℕ → List ℕ → Type 0 where
  at_end : IsReadAs [] []
  itself : (c : ℕ) (cs text : List ℕ) → is_markup c ≡ false → IsReadAs cs text
      → IsReadAs (c ∷ cs) (c ∷ text)
  an_ampersand : (cs text : List ℕ) → IsReadAs cs text
      → IsReadAs (codes "&amp;" ++ cs) (38 ∷ text)
  a_less : (cs text : List ℕ) → IsReadAs cs text → IsReadAs (codes "&lt;" ++ cs) (60 ∷ text)
  a_greater : (cs text : List ℕ) → IsReadAs cs text → IsReadAs (codes "&gt;" ++ cs) (62 ∷ text)
  a_quote : (cs text : List ℕ) → IsReadAs cs text → IsReadAs (codes "&quot;" ++ cs) (34 ∷ text)
  an_apostrophe : (cs text : List ℕ) → IsReadAs cs text
      → IsReadAs (codes "&#39;" ++ cs) (39 ∷ text)
