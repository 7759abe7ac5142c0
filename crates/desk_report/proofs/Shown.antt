-- One character as a terminal shows it.
use Rattle.std.proofs.Common.{◌≡◌, ◌∙◌, ℕ, List, [], ◌∷◌, ap, append-nil, sym}
use Rattle.std.specs.Char.{encode_utf8}
use Rattle.std.specs.List.{flat_map}
use Rattle.std.specs.Str.{IsUtf8, chars}
use Rattle.std.proofs.lemmas.Str.{chars-nil, chars_past_char}
use Rattle.desk_base.specs.Terminal.{shown, shown_char}

pub shown_one : (c : ℕ) (text : List ℕ) → IsUtf8 text → text ≡ encode_utf8 c
    → shown text ≡ shown_char c
unfolding shown
shown_one c text utf8 is =
    let one : chars text ≡ c ∷ [] =
    chars_past_char text [] c utf8 (is ∙ sym (append-nil (encode_utf8 c)))
    ∙ ap (λ cs. c ∷ cs) chars-nil in
    ap (flat_map shown_char) one ∙ append-nil (shown_char c)
