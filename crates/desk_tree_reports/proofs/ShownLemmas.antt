-- A text is shown part by part, if its parts are texts.
use Rattle.std.proofs.Common.{◌≡◌, ◌∙◌, ℕ, false, true, List, ◌++◌, ap, refl, Option, Some, None, IsUtf8, chars}
use Rattle.std.specs.Prelude.{IfSome, codes, option_map}
use Rattle.std.specs.List.{flat_map, list_any}
use Rattle.std.specs.Str.{IsAscii, is_utf8}
use Rattle.std.proofs.lemmas.List.Concat.{flat_map-append}
use Rattle.std.proofs.lemmas.Str.{chars-append, chars-IsAscii, chars-nil, IsUtf8-append, IsUtf8-from_ascii}
use Rattle.std.proofs.lemmas.Str.{IsUtf8-from_is_utf8, IsUtf8-nil}
use denote.Ref.{Bor}
use Rattle.desk_base.specs.Terminal.{is_hidden, shown, shown_char}
use Rattle.desk_base.proofs.Shown.{same}
use Rattle.desk_base.proofs.Texts.{are_ascii}
use Rattle.desk_tree_reports.specs.declared.ways.Way.TheVariants as way
use Rattle.desk_tree_reports.specs.Pieces.{share_text}
use Rattle.desk_tree_problems.specs.Rows.{named_words, text_words}
use Rattle.desk_tree_reports.specs.Ways.{rendered}

shown-append : (a b : List ℕ) → IsUtf8 a → shown (a ++ b) ≡ shown a ++ shown b
unfolding shown
shown-append a b text = ap (flat_map shown_char) (chars-append a b text)
    ∙ flat_map-append shown_char (chars a) (chars b)

-- a text of ASCII with nothing that isn't shown is shown as it is
shown_ascii : (text : List ℕ) → IsAscii text → list_any is_hidden text ≡ false → shown text ≡ text
shown_ascii text ascii none = same text (IsUtf8-from_ascii text ascii)
    (ap (list_any is_hidden) (chars-IsAscii text ascii) ∙ none)

pub front_shown : shown (codes "LICENSES/") ≡ codes "LICENSES/"
front_shown = shown_ascii (codes "LICENSES/") (are_ascii (codes "LICENSES/") refl) refl

pub message_shown : (rest : List ℕ)
    → shown (codes "no text of " ++ rest) ≡ codes "no text of " ++ shown rest
message_shown rest =
    let front = codes "no text of " in
    let ascii = are_ascii front refl in
    shown-append front rest (IsUtf8-from_ascii front ascii)
    ∙ ap (λ l. l ++ shown rest) (shown_ascii front ascii refl)

named_is_text : (path : Option (List ℕ)) → IfSome path IsUtf8 → IsUtf8 (named_words path)
named_is_text None text = IsUtf8-nil
named_is_text (Some path) text =
    let front = codes ", which " in
    let end = codes " names" in
    IsUtf8-append front (path ++ end) (IsUtf8-from_ascii front (are_ascii front refl))
    (IsUtf8-append path end text (IsUtf8-from_ascii end (are_ascii end refl)))

shown_named : (path : Option (List ℕ))
    → shown (named_words path) ≡ share_text (option_map (rendered way.NamedLine) path)
unfolding shown
shown_named None = ap (flat_map shown_char) chars-nil
shown_named (Some path) = refl

-- what is shown of a text that is missing
pub shown_parts : (id : List ℕ) (path : Option (List ℕ)) → IsUtf8 id → IfSome path IsUtf8
    → shown (id ++ (named_words path ++ text_words id))
    ≡ shown id ++ (share_text (option_map (rendered way.NamedLine) path) ++ shown (text_words id))
shown_parts id path id_text path_text =
    shown-append id (named_words path ++ text_words id) id_text
    ∙ ap (λ l. shown id ++ l)
    (shown-append (named_words path) (text_words id) (named_is_text path path_text)
    ∙ ap (λ l. l ++ shown (text_words id)) (shown_named path))

-- the same fact of what a path is seen as
pub path_is_text : (path : Option (Bor (List ℕ)))
    → IfSome path (λ (p : Bor (List ℕ)). is_utf8 p.now ≡ true)
    → IfSome (option_map (λ (p : Bor (List ℕ)). p.now) path) IsUtf8
path_is_text None is = is
path_is_text (Some path) is = IsUtf8-from_is_utf8 path.now is
