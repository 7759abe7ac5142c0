-- What a text is as a terminal shows it.
use Rattle.std.proofs.Common.{◌≡◌, ◌∙◌, ℕ, Bool, true, false, cond, List, [], ◌∷◌, ◌++◌, map, IsUtf8}
use Rattle.std.proofs.Common.{ap, refl, codes}
use Rattle.std.specs.Prelude.{◌||◌}
use Rattle.std.specs.Char.{encode_utf8}
use Rattle.std.specs.List.{flat_map, list_any}
use Rattle.std.specs.Str.{chars}
use Rattle.std.proofs.lemmas.Bool.{and_from}
use Rattle.std.proofs.lemmas.Str.{chars-encodes, encodes-chars, scalars-chars}
use lib.Utf8.{encodes, scalar, scalars}
use Rattle.desk_base.specs.Terminal.{is_hidden, shown, shown_char}
use Rattle.desk_base.proofs.Bools.{and_left, and_right, or_left, or_right}

-- the character that is shown for a character
abbrev char_for : ℕ → ℕ
char_for c = cond (is_hidden c) 63 c

encoded : (c : ℕ) (b : Bool) → cond b (codes "?") (encode_utf8 c) ≡ encode_utf8 (cond b 63 c)
unfolding encode_utf8
encoded c true = refl
encoded c false = refl

-- what is shown is the encoding of these characters
encoding_of : (cs : List ℕ) → flat_map shown_char cs ≡ encodes (map char_for cs)
encoding_of [] = refl
encoding_of (c ∷ cs) = λ i. encoded c (is_hidden c) i ++ encoding_of cs i

one_scalar : (c : ℕ) (b : Bool) → scalar c ≡ true → scalar (cond b 63 c) ≡ true
one_scalar c true is = refl
one_scalar c false is = is

scalars_for : (cs : List ℕ) → scalars cs ≡ true → scalars (map char_for cs) ≡ true
scalars_for [] is = refl
scalars_for (c ∷ cs) is =
    and_from (scalar (char_for c)) (scalars (map char_for cs))
    (one_scalar c (is_hidden c) (and_left (scalar c) (scalars cs) is))
    (scalars_for cs (and_right (scalar c) (scalars cs) is))

pub shown_chars : (text : List ℕ) → IsUtf8 text → chars (shown text) ≡ map char_for (chars text)
unfolding shown
shown_chars text utf8 =
    ap chars (encoding_of (chars text))
    ∙ chars-encodes (map char_for (chars text)) (scalars_for (chars text) (scalars-chars text utf8))

one_hidden : (c : ℕ) (b : Bool) → is_hidden c ≡ b → is_hidden (cond b 63 c) ≡ false
one_hidden c true is = refl
one_hidden c false is = is

all_hidden : (cs : List ℕ) → list_any is_hidden (map char_for cs) ≡ false
all_hidden [] = refl
all_hidden (c ∷ cs) = λ i. one_hidden c (is_hidden c) refl i || all_hidden cs i

-- no character that isn't shown is left
pub hidden : (text : List ℕ) → IsUtf8 text → list_any is_hidden (chars (shown text)) ≡ false
hidden text utf8 = ap (list_any is_hidden) (shown_chars text utf8) ∙ all_hidden (chars text)

all_same : (cs : List ℕ) → list_any is_hidden cs ≡ false → map char_for cs ≡ cs
all_same [] none = refl
all_same (c ∷ cs) none =
    let here = or_left (is_hidden c) (list_any is_hidden cs) none in
    let later = or_right (is_hidden c) (list_any is_hidden cs) none in
    λ i. ap (λ b. cond b 63 c) here i ∷ all_same cs later i

-- what has none is shown as it is
pub same : (text : List ℕ) → IsUtf8 text → list_any is_hidden (chars text) ≡ false
    → shown text ≡ text
unfolding shown
same text utf8 none = encoding_of (chars text) ∙ ap encodes (all_same (chars text) none)
    ∙ encodes-chars text utf8
