-- An escaped text contains no markup.
use Rattle.std.proofs.Common.{◌≡◌, ◌∙◌, ℕ, suc, ◌<◌, inl, inr, Bool, true, false, List, [], ◌∷◌}
use Rattle.std.proofs.Common.{◌++◌, length, get_or, refl, sym, ap, arith}
use Rattle.std.specs.Prelude.{◌==◌, ◌||◌, codes, if◌then◌else◌}
use Rattle.std.specs.Char.{encode_utf8}
use Rattle.std.specs.List.{flat_map}
use Rattle.std.specs.Str.{chars}
use Rattle.std.proofs.lemmas.Bool.{cases_Bool, false≢true}
use Rattle.std.proofs.lemmas.Bool.Decides.{nat_tests}
use Rattle.std.proofs.lemmas.List.{append-nil}
use Rattle.std.proofs.lemmas.Str.{inside_one}
use Rattle.desk_page.specs.Escapes.{escaped, is_barred, is_markup, shown_char, IsInert, nothing}
use Rattle.desk_page.specs.Escapes.{plain, ampersand, less, greater, quote, apostrophe}

markup_is_ascii : (b : ℕ) → is_markup b ≡ true → b < 128
markup_is_ascii b is = grind (arith, nat_tests)

-- if a character is no markup, none of its bytes is
byte_of_plain : (c k : ℕ) → is_markup c ≡ false → k < length (encode_utf8 c)
    → is_markup (get_or (encode_utf8 c) k 0) ≡ false
byte_of_plain c k other within =
    elim (cases_Bool (is_markup (get_or (encode_utf8 c) k 0))) [
      | inl is ↦
          let same : c ≡ get_or (encode_utf8 c) k 0 =
          inside_one c [] (encode_utf8 c) k (sym (append-nil (encode_utf8 c))) within
          (markup_is_ascii _ is) in
          absurd (false≢true (sym other ∙ ap is_markup same ∙ is))
      | inr is ↦ is
    ]

plain_bytes : (bs rest : List ℕ) → ((k : ℕ) → k < length bs → is_markup (get_or bs k 0) ≡ false)
    → IsInert rest → IsInert (bs ++ rest)
plain_bytes [] rest are inert = inert
plain_bytes (b ∷ bs) rest are inert =
    plain b (bs ++ rest) (are 0 (omega arith))
    (plain_bytes bs rest (λ k within. are (suc k) (omega arith)) inert)

-- how a character is shown, case by case
by_case : (c : ℕ) (rest : List ℕ) → IsInert rest → (a l g q s barred : Bool)
    → ((((a || l) || g) || q) || s ≡ false → IsInert (encode_utf8 c ++ rest))
    → IsInert ((if a then codes "&amp;" else if l then codes "&lt;" else if g then codes "&gt;"
    else if q then codes "&quot;"
    else if s then codes "&#39;" else if barred then encode_utf8 65533 else encode_utf8 c) ++ rest)
by_case c rest inert true l g q s barred as_it_is = ampersand rest inert
by_case c rest inert false true g q s barred as_it_is = less rest inert
by_case c rest inert false false true q s barred as_it_is = greater rest inert
by_case c rest inert false false false true s barred as_it_is = quote rest inert
by_case c rest inert false false false false true barred as_it_is = apostrophe rest inert
by_case c rest inert false false false false false true as_it_is =
    plain_bytes (encode_utf8 65533) rest (λ k within. byte_of_plain 65533 k refl within) inert
by_case c rest inert false false false false false false as_it_is = as_it_is refl

inert_char : (c : ℕ) (rest : List ℕ) → IsInert rest → IsInert (shown_char c ++ rest)
inert_char c rest inert =
    by_case c rest inert (c == 38) (c == 60) (c == 62) (c == 34) (c == 39) (is_barred c)
    (λ other. plain_bytes (encode_utf8 c) rest (λ k within. byte_of_plain c k other within) inert)

inert_chars : (cs : List ℕ) → IsInert (flat_map shown_char cs)
inert_chars [] = nothing
inert_chars (c ∷ cs) = inert_char c (flat_map shown_char cs) (inert_chars cs)

pub escaped_is_inert : (text : List ℕ) → IsInert (escaped text)
unfolding escaped
escaped_is_inert text = inert_chars (chars text)
