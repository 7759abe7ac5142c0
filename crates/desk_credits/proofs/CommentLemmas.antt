-- What is between the sign of a comment and the end of its line, and that a reader of TOML skips it.
use Rattle.std.proofs.Common.{◌≡◌, ◌∙◌, ℕ, zero, suc, ◌+◌, ◌/◌, ◌%◌, ◌<◌, ◌≤◌, Bool, true, false, cond, List, [], ◌∷◌, ◌++◌}
use Rattle.std.proofs.Common.{ap, ap₂, refl, sym, inl, inr, arith, append_assoc, append-nil, codes, decimal, subst, IsUtf8, Some, None}
use Rattle.std.specs.Prelude.{◌&&◌, ◌==◌, nat_lt, Option}
use Rattle.std.specs.Char.{encode_utf8, is_control}
use Rattle.std.specs.Fmt.{digits, digits_onto}
use Rattle.std.specs.List.{flat_map, list_all}
use Rattle.std.specs.Str.{chars}
use Rattle.std.proofs.lemmas.Bool.{and_from, cases_Bool}
use Rattle.std.proofs.lemmas.Bool.Decides.{nat_tests}
use Rattle.std.proofs.lemmas.Str.{IsUtf8-append, IsUtf8-from_ascii, IsUtf8-nil, scalars-chars}
use lib.Utf8.{encode, next, scalar, scalars}
use Rattle.toml_parser.specs.Lexical.{first, is_non_eol, skip_blank, skip_from, skip_turn}
use Rattle.desk_base.specs.Terminal.{is_bidirectional, is_hidden, shown, shown_char}
use Rattle.desk_base.proofs.Bools.{and_left, and_right, or_left}
use Rattle.desk_base.proofs.Texts.{are_ascii}
use Rattle.desk_credits.specs.declared.notice.Notice.{Notice}
use Rattle.desk_credits.specs.declared.notice.Place.{Place}
use Rattle.desk_credits.specs.Written.{comment, comments, comment_if}

-- ---- bytes that may be in a comment

plain-append : (xs ys : List ℕ) → list_all is_non_eol xs ≡ true → list_all is_non_eol ys ≡ true
    → list_all is_non_eol (xs ++ ys) ≡ true
plain-append [] ys a b = b
plain-append (x ∷ xs) ys a b = and_from (is_non_eol x) (list_all is_non_eol (xs ++ ys))
    (and_left (is_non_eol x) (list_all is_non_eol xs) a)
    (plain-append xs ys (and_right (is_non_eol x) (list_all is_non_eol xs) a) b)

high : (b : ℕ) → 128 ≤ b → is_non_eol b ≡ true
high b large = grind (arith, nat_tests)

low : (c : ℕ) → is_control c ≡ false → c < 128 → is_non_eol c ≡ true
low c other small = grind (arith, nat_tests)

one : (b : ℕ) → is_non_eol b ≡ true → list_all is_non_eol (b ∷ []) ≡ true
one b is = ap (λ v. v && true) is

more : (b : ℕ) (bs : List ℕ) → is_non_eol b ≡ true → list_all is_non_eol bs ≡ true
    → list_all is_non_eol (b ∷ bs) ≡ true
more b bs is are = and_from (is_non_eol b) (list_all is_non_eol bs) is are

follows : (c : ℕ) → is_non_eol (next c) ≡ true
follows c = high (next c) (omega arith)

plain_encode : (c : ℕ) → is_control c ≡ false → list_all is_non_eol (encode c) ≡ true
unfolding encode
plain_encode c other = elim (cases_Bool (nat_lt c 128)) [
  | inl small ↦ rw small (one c (low c other (grind (arith, nat_tests))))
  | inr large ↦ rw large (elim (cases_Bool (nat_lt c 2048)) [
    | inl two ↦ rw two (more (192 + c / 64) (next c ∷ []) (high (192 + c / 64) (omega arith))
        (one (next c) (follows c)))
    | inr wide ↦ rw wide (elim (cases_Bool (nat_lt c 65536)) [
      | inl three ↦ rw three (more (224 + c / 4096) (next (c / 64) ∷ next c ∷ [])
          (high (224 + c / 4096) (omega arith)) (more (next (c / 64)) (next c ∷ [])
          (follows (c / 64)) (one (next c) (follows c))))
      | inr four ↦ rw four (more (240 + c / 262144) (next (c / 4096) ∷ next (c / 64) ∷ next c ∷ [])
          (high (240 + c / 262144) (omega arith)) (more (next (c / 4096))
          (next (c / 64) ∷ next c ∷ []) (follows (c / 4096)) (more (next (c / 64)) (next c ∷ [])
          (follows (c / 64)) (one (next c) (follows c)))))
    ])
  ])
]

plain_char : (c : ℕ) (b : Bool) → is_hidden c ≡ b
    → list_all is_non_eol (cond b (codes "?") (encode c)) ≡ true
plain_char c true is = refl
plain_char c false is = plain_encode c (or_left (is_control c) (is_bidirectional c) is)

plain_chars : (cs : List ℕ) → list_all is_non_eol (flat_map shown_char cs) ≡ true
unfolding encode_utf8
plain_chars [] = refl
plain_chars (c ∷ cs) = plain-append (shown_char c) (flat_map shown_char cs)
    (plain_char c (is_hidden c) refl) (plain_chars cs)

plain_shown : (text : List ℕ) → list_all is_non_eol (shown text) ≡ true
unfolding shown
plain_shown text = plain_chars (chars text)

plain_digit : (n : ℕ) → n < 10 → is_non_eol (48 + n) ≡ true
plain_digit n small = grind (arith, nat_tests)

glyph : (n : ℕ) → n < 10 → is_non_eol (cond (nat_lt n 10) (48 + n) (87 + n)) ≡ true
glyph n small = let few : nat_lt n 10 ≡ true = grind (arith, nat_tests) in rw few (plain_digit n small)

plain_onto : (k n : ℕ) (behind : List ℕ) → list_all is_non_eol behind ≡ true
    → list_all is_non_eol (digits_onto k 10 false n behind) ≡ true
plain_onto zero n behind are = are
plain_onto (suc k) n behind are =
    let digit = cond (nat_lt (n % 10) 10) (48 + n % 10) (87 + n % 10) in
    let here = more digit behind (glyph (n % 10) (omega arith)) are in
    elim (cases_Bool (n / 10 == 0)) [
      | inl last ↦ rw last here
      | inr other ↦ rw other (plain_onto k (n / 10) (digit ∷ behind) here)
    ]

plain_decimal : (n : ℕ) → list_all is_non_eol (decimal n) ≡ true
unfolding digits
plain_decimal n = plain_onto 64 n [] refl

-- ---- reading past comments

skip_rest : (body rest : List ℕ) → list_all is_non_eol body ≡ true
    → skip_from true true (body ++ 10 ∷ rest) ≡ skip_blank rest
unfolding skip_from
skip_rest [] rest are = refl
skip_rest (c ∷ cs) rest are =
    let plain = and_left (is_non_eol c) (list_all is_non_eol cs) are in
    let turn : skip_turn true true c (first (cs ++ 10 ∷ rest)) ≡ Some true = grind (arith, nat_tests) in
    rw turn (skip_rest cs rest (and_right (is_non_eol c) (list_all is_non_eol cs) are))

skip_sign : (text : List ℕ) → skip_blank (35 ∷ text) ≡ skip_from true true text
unfolding skip_from
skip_sign text = refl

-- what a comment says
abbrev body_of : Place → List ℕ
body_of place = codes " found by pattern, to be checked: " ++ (shown place.path
    ++ (codes ":" ++ decimal place.line))

plain_body : (place : Place) → list_all is_non_eol (body_of place) ≡ true
plain_body place =
    let line = codes ":" ++ decimal place.line in
    plain-append (codes " found by pattern, to be checked: ") (shown place.path ++ line) refl
    (plain-append (shown place.path) line (plain_shown place.path)
    (plain-append (codes ":") (decimal place.line) refl (plain_decimal place.line)))

shape : (place : Place) (rest : List ℕ) → comment place ++ rest ≡ 35 ∷ (body_of place ++ 10 ∷ rest)
shape place rest = simp append_assoc refl

skip_comment : (place : Place) (rest : List ℕ) → skip_blank (comment place ++ rest) ≡ skip_blank rest
skip_comment place rest = ap skip_blank (shape place rest) ∙ skip_sign (body_of place ++ 10 ∷ rest)
    ∙ skip_rest (body_of place) rest (plain_body place)

skip_if : (o : Option Place) (rest : List ℕ) → skip_blank (comment_if o ++ rest) ≡ skip_blank rest
skip_if None rest = refl
skip_if (Some place) rest = skip_comment place rest

-- comments are skipped
pub skip_comments : (ns : List Notice) (rest : List ℕ)
    → skip_blank (comments ns ++ rest) ≡ skip_blank rest
skip_comments [] rest = refl
skip_comments (n ∷ ns) rest =
    ap skip_blank (append_assoc (comment_if n.place) (comments ns) rest)
    ∙ skip_if n.place (comments ns ++ rest) ∙ skip_comments ns rest

begins_if : (o : Option Place) (rest : List ℕ) → (first rest == 239) ≡ false
    → (first (comment_if o ++ rest) == 239) ≡ false
begins_if None rest is = is
begins_if (Some place) rest is = refl

-- behind comments, or without any, no byte order mark begins
pub begins_otherwise : (ns : List Notice) (rest : List ℕ) → (first rest == 239) ≡ false
    → (first (comments ns ++ rest) == 239) ≡ false
begins_otherwise [] rest is = is
begins_otherwise (n ∷ ns) rest is =
    ap (λ text. first text == 239) (append_assoc (comment_if n.place) (comments ns) rest)
    ∙ begins_if n.place (comments ns ++ rest) (begins_otherwise ns rest is)

-- ---- texts

utf8_char : (c : ℕ) (b : Bool) → scalar c ≡ true → IsUtf8 (cond b (codes "?") (encode c))
unfolding encode
utf8_char c true is = (63 ∷ [], (refl, refl))
utf8_char c false is = (c ∷ [], (ap (λ v. v && true) is, append-nil (encode c)))

utf8_chars : (cs : List ℕ) → scalars cs ≡ true → IsUtf8 (flat_map shown_char cs)
unfolding encode_utf8
utf8_chars [] are = IsUtf8-nil
utf8_chars (c ∷ cs) are = IsUtf8-append (shown_char c) (flat_map shown_char cs)
    (utf8_char c (is_hidden c) (and_left (scalar c) (scalars cs) are))
    (utf8_chars cs (and_right (scalar c) (scalars cs) are))

-- what is shown of a text is one
pub utf8_shown : (text : List ℕ) → IsUtf8 text → IsUtf8 (shown text)
unfolding shown
utf8_shown text utf8 = utf8_chars (chars text) (scalars-chars text utf8)

-- ---- one more comment

pub comment_added : (place : Place) (old first all new path behind : List ℕ)
    → first ≡ old ++ codes "# found by pattern, to be checked: " → all ≡ first ++ shown path
    → path ≡ place.path → behind ≡ codes ":" ++ (decimal place.line ++ codes "\n")
    → new ≡ all ++ behind → new ≡ old ++ comment place
comment_added place old first all new path behind begun shows same ends is =
    let front = codes "# found by pattern, to be checked: " in
    let rest = codes ":" ++ (decimal place.line ++ codes "\n") in
    let told : all ≡ (old ++ front) ++ shown place.path =
    shows ∙ ap₂ (λ a b. a ++ b) begun (ap shown same) in
    is ∙ ap₂ (λ a b. a ++ b) told ends
    ∙ append_assoc (old ++ front) (shown place.path) rest
    ∙ append_assoc old front (shown place.path ++ rest)

-- a text with one more comment is a text
pub still_utf8 : (place : Place) (old new behind : List ℕ) → IsUtf8 old → IsUtf8 place.path
    → IsUtf8 behind → behind ≡ codes ":" ++ (decimal place.line ++ codes "\n")
    → new ≡ old ++ comment place → IsUtf8 new
still_utf8 place old new behind old_utf8 path_utf8 end_utf8 ends is =
    let front = codes "# found by pattern, to be checked: " in
    let rest = codes ":" ++ (decimal place.line ++ codes "\n") in
    subst IsUtf8 (sym is) (IsUtf8-append old (comment place) old_utf8
    (IsUtf8-append front (shown place.path ++ rest) (IsUtf8-from_ascii front (are_ascii front refl))
    (IsUtf8-append (shown place.path) rest (utf8_shown place.path path_utf8)
    (subst IsUtf8 ends end_utf8))))
