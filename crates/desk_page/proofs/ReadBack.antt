-- An escaped text is read back as the text.
use Rattle.std.proofs.Common.{◌≡◌, ◌∙◌, ℕ, Bool, true, false, cond, List, [], ◌∷◌, ◌++◌, map, IsUtf8}
use Rattle.std.proofs.Common.{ap, refl, codes, sym, subst, arith}
use Rattle.std.specs.Prelude.{◌==◌, ◌||◌, if◌then◌else◌}
use Rattle.std.specs.Char.{encode_utf8}
use Rattle.std.specs.List.{flat_map}
use Rattle.std.specs.Str.{chars}
use Rattle.std.proofs.lemmas.Bool.{and_from}
use Rattle.std.proofs.lemmas.Bool.Decides.{nat_tests}
use Rattle.std.proofs.lemmas.Str.{chars-encodes, scalars-chars}
use lib.Utf8.{encodes, scalar, scalars}
use Rattle.desk_base.proofs.Bools.{and_left, and_right}
use Rattle.desk_page.specs.Escapes.{escaped, is_barred, is_markup, page_char, shown_char, IsReadAs}
use Rattle.desk_page.specs.Escapes.{at_end, itself, an_ampersand, a_less, a_greater, a_quote}
use Rattle.desk_page.specs.Escapes.{an_apostrophe}

-- the characters of a page for a character, case by case
abbrev codes_by : ℕ → Bool → Bool → Bool → Bool → Bool → Bool → List ℕ
codes_by c a l g q s barred = if a then codes "&amp;" else if l then codes "&lt;"
    else if g then codes "&gt;" else if q then codes "&quot;" else if s then codes "&#39;"
    else if barred then 65533 ∷ [] else c ∷ []

abbrev codes_for : ℕ → List ℕ
codes_for c = codes_by c (c == 38) (c == 60) (c == 62) (c == 34) (c == 39) (is_barred c)

abbrev bytes_by : ℕ → Bool → Bool → Bool → Bool → Bool → Bool → List ℕ
bytes_by c a l g q s barred = if a then codes "&amp;" else if l then codes "&lt;"
    else if g then codes "&gt;" else if q then codes "&quot;" else if s then codes "&#39;"
    else if barred then encode_utf8 65533 else encode_utf8 c

encoded : (c : ℕ) (a l g q s barred : Bool) (rest : List ℕ)
    → bytes_by c a l g q s barred ++ encodes rest ≡ encodes (codes_by c a l g q s barred ++ rest)
unfolding encode_utf8
encoded c true l g q s barred rest = refl
encoded c false true g q s barred rest = refl
encoded c false false true q s barred rest = refl
encoded c false false false true s barred rest = refl
encoded c false false false false true barred rest = refl
encoded c false false false false false true rest = refl
encoded c false false false false false false rest = refl

encoding_of : (cs : List ℕ) → flat_map shown_char cs ≡ encodes (flat_map codes_for cs)
encoding_of [] = refl
encoding_of (c ∷ cs) =
    ap (λ l. shown_char c ++ l) (encoding_of cs)
    ∙ encoded c (c == 38) (c == 60) (c == 62) (c == 34) (c == 39) (is_barred c)
    (flat_map codes_for cs)

scalars_by : (c : ℕ) (a l g q s barred : Bool) (rest : List ℕ) → scalar c ≡ true
    → scalars rest ≡ true → scalars (codes_by c a l g q s barred ++ rest) ≡ true
scalars_by c true l g q s barred rest is more = more
scalars_by c false true g q s barred rest is more = more
scalars_by c false false true q s barred rest is more = more
scalars_by c false false false true s barred rest is more = more
scalars_by c false false false false true barred rest is more = more
scalars_by c false false false false false true rest is more = more
scalars_by c false false false false false false rest is more =
    and_from (scalar c) (scalars rest) is more

scalars_for : (cs : List ℕ) → scalars cs ≡ true → scalars (flat_map codes_for cs) ≡ true
scalars_for [] is = refl
scalars_for (c ∷ cs) is =
    scalars_by c (c == 38) (c == 60) (c == 62) (c == 34) (c == 39) (is_barred c)
    (flat_map codes_for cs) (and_left (scalar c) (scalars cs) is)
    (scalars_for cs (and_right (scalar c) (scalars cs) is))

page_chars : (text : List ℕ) → IsUtf8 text
    → chars (escaped text) ≡ flat_map codes_for (chars text)
unfolding escaped
page_chars text utf8 =
    ap chars (encoding_of (chars text))
    ∙ chars-encodes (flat_map codes_for (chars text))
    (scalars_for (chars text) (scalars-chars text utf8))

-- a reference names an ASCII character that isn't barred
read_by : (c : ℕ) (a l g q s barred : Bool) (rest text : List ℕ) → (c == 38) ≡ a → (c == 60) ≡ l
    → (c == 62) ≡ g → (c == 34) ≡ q → (c == 39) ≡ s → is_barred c ≡ barred → IsReadAs rest text
    → IsReadAs (codes_by c a l g q s barred ++ rest) (page_char c ∷ text)
read_by c true l g q s barred rest text a_is l_is g_is q_is s_is barred_is more =
    let is : c ≡ 38 = grind (arith, nat_tests) in
    subst (λ d. IsReadAs (codes "&amp;" ++ rest) (page_char d ∷ text)) (sym is)
    (an_ampersand rest text more)
read_by c false true g q s barred rest text a_is l_is g_is q_is s_is barred_is more =
    let is : c ≡ 60 = grind (arith, nat_tests) in
    subst (λ d. IsReadAs (codes "&lt;" ++ rest) (page_char d ∷ text)) (sym is)
    (a_less rest text more)
read_by c false false true q s barred rest text a_is l_is g_is q_is s_is barred_is more =
    let is : c ≡ 62 = grind (arith, nat_tests) in
    subst (λ d. IsReadAs (codes "&gt;" ++ rest) (page_char d ∷ text)) (sym is)
    (a_greater rest text more)
read_by c false false false true s barred rest text a_is l_is g_is q_is s_is barred_is more =
    let is : c ≡ 34 = grind (arith, nat_tests) in
    subst (λ d. IsReadAs (codes "&quot;" ++ rest) (page_char d ∷ text)) (sym is)
    (a_quote rest text more)
read_by c false false false false true barred rest text a_is l_is g_is q_is s_is barred_is more =
    let is : c ≡ 39 = grind (arith, nat_tests) in
    subst (λ d. IsReadAs (codes "&#39;" ++ rest) (page_char d ∷ text)) (sym is)
    (an_apostrophe rest text more)
read_by c false false false false false true rest text a_is l_is g_is q_is s_is barred_is more =
    let shown : page_char c ≡ 65533 = ap (λ b. cond b 65533 c) barred_is in
    subst (λ d. IsReadAs (65533 ∷ rest) (d ∷ text)) (sym shown) (itself 65533 rest text refl more)
read_by c false false false false false false rest text a_is l_is g_is q_is s_is barred_is more =
    let shown : page_char c ≡ c = ap (λ b. cond b 65533 c) barred_is in
    let plain : is_markup c ≡ false =
    λ i. ((((a_is i || l_is i) || g_is i) || q_is i) || s_is i) in
    subst (λ d. IsReadAs (c ∷ rest) (d ∷ text)) (sym shown) (itself c rest text plain more)

read_chars : (cs : List ℕ) → IsReadAs (flat_map codes_for cs) (map page_char cs)
read_chars [] = at_end
read_chars (c ∷ cs) = read_by c (c == 38) (c == 60) (c == 62) (c == 34) (c == 39) (is_barred c)
    (flat_map codes_for cs) (map page_char cs) refl refl refl refl refl refl (read_chars cs)

pub read_back : (text : List ℕ) → IsUtf8 text
    → IsReadAs (chars (escaped text)) (map page_char (chars text))
read_back text utf8 = subst (λ l. IsReadAs l (map page_char (chars text)))
    (sym (page_chars text utf8)) (read_chars (chars text))
