-- The copyright notice that a line has without a tag: behind the start of a comment, a text that
-- begins as notices do. REUSE's tool finds such texts too; its comment styles are those below.
use Rattle.std.specs.Prelude.{ℕ, ◌-◌, ◌||◌, ◌&&◌, not, nat_eq, nat_lt, Bool, false, List, [], ◌∷◌}
use Rattle.std.specs.Prelude.{length, take, drop, codes, Option, Some, None, if◌then◌else◌}
use Rattle.std.specs.Prelude.{option_and_then}
use Rattle.std.specs.List.{list_any, starts_with, ends_with}
use Rattle.std.specs.Option.{option_map_or}
use Rattle.std.specs.Str.{is_utf8}
use Rattle.desk_fields.specs.Text.{trim_end, trimmed}
use Rattle.desk_tree_annotations.specs.Tags.{notice_tag}

-- ---- the table

-- what begins a comment, or a further line of one; a longer one comes before its own front
abbrev pub comment_starts : List (List ℕ)
comment_starts = codes "///" ∷ codes "//!" ∷ codes "//" ∷ codes "/**" ∷ codes "/*" ∷ codes "/'"
    ∷ codes "**" ∷ codes "*" ∷ codes "##" ∷ codes "#=" ∷ codes "#*" ∷ codes "#" ∷ codes "---"
    ∷ codes "--" ∷ codes ";;;" ∷ codes ";;" ∷ codes ";" ∷ codes "<!--" ∷ codes "<%--"
    ∷ codes "<#--" ∷ codes "{{!--" ∷ codes "{#" ∷ codes "{-" ∷ codes "(*" ∷ codes "(:" ∷ codes ":"
    ∷ codes "%%" ∷ codes "%" ∷ codes "!" ∷ codes ".\\\"" ∷ codes ".." ∷ codes "\"" ∷ codes "'"
    ∷ codes "dnl" ∷ codes "REM" ∷ codes "rem" ∷ codes "@Comment{" ∷ []

-- what ends a comment; a longer one comes before its own end
abbrev pub comment_ends : List (List ℕ)
comment_ends = codes "*/" ∷ codes "'/" ∷ codes "=#" ∷ codes "*#" ∷ codes "--%>" ∷ codes "-->"
    ∷ codes "--}}" ∷ codes "#}" ∷ codes "-}" ∷ codes "*)" ∷ codes ":)" ∷ codes "}" ∷ []

-- the word with which a notice begins
abbrev pub words : List (List ℕ)
words = codes "Copyright" ∷ []

-- the copyright sign in UTF-8
abbrev pub sign : List ℕ
sign = 194 ∷ 169 ∷ []

-- what may follow that word: a blank, the sign, however written, or a digit
abbrev pub followers : List (List ℕ)
followers = codes " " ∷ codes "\t" ∷ codes "(" ∷ sign ∷ codes "0" ∷ codes "1" ∷ codes "2"
    ∷ codes "3" ∷ codes "4" ∷ codes "5" ∷ codes "6" ∷ codes "7" ∷ codes "8" ∷ codes "9" ∷ []

-- the marks with which a notice begins
abbrev pub marks : List (List ℕ)
marks = codes "(c)" ∷ codes "(C)" ∷ sign ∷ []

-- ---- the pattern

-- the text behind the first of some fronts that it has
abbrev pub behind_first : List (List ℕ) → List ℕ → Option (List ℕ)
behind_first [] text = None
behind_first (front ∷ fronts) text = if starts_with nat_eq text front
    then Some (drop (length front) text) else behind_first fronts text

-- the text before the first of some ends that it has, or the whole text
abbrev pub before_first : List (List ℕ) → List ℕ → List ℕ
before_first [] text = text
before_first (end ∷ ends) text = if ends_with nat_eq text end
    then take (length text - length end) text else before_first ends text

-- a text has one of some fronts
abbrev pub has_front : List (List ℕ) → List ℕ → Bool
has_front fronts text = list_any (λ front. starts_with nat_eq text front) fronts

-- a text begins as a notice does, and says more than that
abbrev pub is_notice : List ℕ → Bool
is_notice text = option_map_or (has_front followers) (behind_first words text) false
    || option_map_or (λ rest. nat_lt 0 (length rest)) (behind_first marks text) false

-- what is left of a comment without its end, and without blanks at its ends
abbrev pub inner : List ℕ → List ℕ
inner comment = trim_end (before_first comment_ends (trimmed comment))

-- the notice that a comment is
abbrev pub notice_of : List ℕ → Option (List ℕ)
notice_of comment = if is_notice (inner comment) && is_utf8 (inner comment)
    then Some (inner comment) else None

-- a line has the tag of a notice, so that its notice is found by the tag
abbrev pub has_tag : List ℕ → Bool
has_tag [] = false
has_tag (b ∷ bs) = starts_with nat_eq (b ∷ bs) notice_tag || has_tag bs

-- a line that is looked at: at most 1,024 bytes, and without the tag
abbrev pub is_looked_at : List ℕ → Bool
is_looked_at line = not (nat_lt 1024 (length line)) && not (has_tag line)

-- the notice that a line has by pattern
abbrev pub notice_in : List ℕ → Option (List ℕ)
notice_in line = if is_looked_at line
    then option_and_then notice_of (behind_first comment_starts (trimmed line)) else None
