-- A printed term spells itself: it is no longer than each text that spells it.
use Rattle.std.proofs.Common.{◌≡◌, ◌∙◌, ℕ, ◌+◌, ◌-◌, ◌≤◌, Bool, true, false, List, [], ◌∷◌, ◌++◌}
use Rattle.std.proofs.Common.{length, Option, Some, None, refl, sym, ap, subst, arith}
use Rattle.std.proofs.Common.{length-append, inl, inr}
use Rattle.std.specs.Prelude.{IsTrue, codes, if◌then◌else◌}
use Rattle.std.specs.Char.{to_ascii_lowercase}
use Rattle.std.specs.Str.{bytes_eq}
use Rattle.std.proofs.lemmas.Bool.Decides.{eqb_tells}
use Rattle.std.proofs.lemmas.List.{length-map, length-take}
use Rattle.std.proofs.lemmas.List.Elements.{All-get_or}
use Rattle.desk_base.specs.Folded.{folded}
use Rattle.desk_base.specs.Idstring.{is_idstring}
use Rattle.desk_base.specs.declared.profile.Profile.TheVariants.{Capitals}
use Rattle.desk_base.proofs.Texts.{texts_equal}
use Rattle.desk_expr.specs.Grammar.{opening, closing, with_word, word}
use Rattle.desk_expr.specs.Printing.{printed_exception, printed_term, printed_word}
use Rattle.desk_expr.specs.Spelling.{SpellsTermAlone, SpellsTermWithin, symbol, symbol_of, symbols}
use Rattle.desk_tokens.specs.Tokens.{AreTokens, is_parenthesis, IsPiece, is_run_byte, Lexeme, NoRunBegins}
use Rattle.desk_tokens.specs.Words.{begins_like_reference, is_licence_or_later, is_reference}
use Rattle.desk_expr.specs.Words.{is_term}
use Rattle.desk_tokens.specs.Words.{IsWordOf, kind_by}
use Rattle.desk_expr.specs.Words.{licence_term, or_later_term, reference_term}
use Rattle.desk_tokens.specs.Words.{without_last, word_kind}
use Rattle.desk_expr.specs.Words.{with_exception}
use Rattle.desk_expr.specs.declared.term.Term.{Term}
use Rattle.desk_tokens.specs.declared.token.Kind.{Kind}
use Rattle.desk_tokens.specs.declared.token.Kind.TheVariants.{Opening, Closing, And, Or, With}
use Rattle.desk_tokens.specs.declared.token.Kind.TheVariants.{Licence, LicenceOrLater, Reference, Bad}
use Rattle.desk_expr.proofs.Prints.{printed_term_spells}
use Rattle.desk_expr.proofs.TermLemmas.{term_inv}
use Rattle.desk_expr.proofs.WordLemmas.{word_of}
use Rattle.desk_expr.proofs.SymbolLemmas.{is_with}

-- ---- words

front_shorter : (w : List ℕ) → is_licence_or_later w ≡ true
    → length (folded (without_last w)) + 1 ≤ length w
front_shorter [] e = cc
front_shorter (b ∷ bs) e = omega (
  arith,
  length-map (without_last (b ∷ bs)) to_ascii_lowercase,
  length-take (length (b ∷ bs) - 1) (b ∷ bs),
)

abbrev IsShort : List ℕ → Term → Type 0
IsShort w t = (length (printed_word t) ≤ length w) × (t.exception ≡ None)

short_word : (k : Kind) (w : List ℕ) (t : Term) (o : Option (List ℕ)) → IsWordOf k w
    → symbol k w ≡ word t o → IsShort w t
short_word Opening w t o h e = absurd (cc)
short_word Closing w t o h e = absurd (cc)
short_word And w t o h e = absurd (cc)
short_word Or w t o h e = absurd (cc)
short_word With w t o h e = absurd (cc)
short_word Licence w t o h e =
    let same : licence_term w ≡ t = cc in
    subst (IsShort w) same (
      omega (arith, length-append (folded w) [], length-map w to_ascii_lowercase),
      refl,
    )
short_word LicenceOrLater w t o h e =
    let same : or_later_term w ≡ t = cc in
    subst (IsShort w) same (
      omega (arith, length-append (folded (without_last w)) (codes "+"), front_shorter w h),
      refl,
    )
short_word Reference w t o h e =
    let same : reference_term w ≡ t = cc in
    subst (IsShort w) same (omega (arith, length-append w []), refl)
short_word Bad w t o h e = absurd (cc)

short_exception : (k : Kind) (w : List ℕ) (t : Term) (x : List ℕ) → symbol k w ≡ word t (Some x)
    → length x ≤ length w
short_exception Opening w t x e = absurd (cc)
short_exception Closing w t x e = absurd (cc)
short_exception And w t x e = absurd (cc)
short_exception Or w t x e = absurd (cc)
short_exception With w t x e = absurd (cc)
short_exception Licence w t x e =
    let same : folded w ≡ x = cc in
    subst (λ (y : List ℕ). length y ≤ length w) same
    (omega (arith, length-map w to_ascii_lowercase))
short_exception LicenceOrLater w t x e = absurd (cc)
short_exception Reference w t x e = absurd (cc)
short_exception Bad w t x e = absurd (cc)

-- ---- runs: a word is one, so there is a blank between two words

record IsRun (text rest : List ℕ) : Type 0 where
  first : ℕ
  others : List ℕ
  is : text ≡ first ∷ others
  runs : is_run_byte first ≡ true
  behind : NoRunBegins rest

no_parenthesis : (b : ℕ) → IsTrue (is_parenthesis b) → (t : Term) (o : Option (List ℕ))
    → symbol (kind_by Capitals (b ∷ [])) (b ∷ []) ≡ word t o → ⊥
no_parenthesis b is t o e =
    elim (eqb_tells b 40) [
      | inl same ↦ (let at : opening ≡ word t o =
          subst (λ c. symbol (kind_by Capitals (c ∷ [])) (c ∷ []) ≡ word t o) same.1 e in
          absurd (cc))
      | inr differ ↦ elim (eqb_tells b 41) [
        | inl same ↦ (let at : closing ≡ word t o =
            subst (λ c. symbol (kind_by Capitals (c ∷ [])) (c ∷ []) ≡ word t o) same.1 e in
            absurd (cc))
        | inr other ↦ (let none : is_parenthesis b ≡ false = rw (differ.0, other.0) refl in
            absurd (cc))
      ]
    ]

run_of : (text rest : List ℕ) (k : Kind) (t : Term) (o : Option (List ℕ))
    → k ≡ kind_by Capitals text → symbol k text ≡ word t o → IsPiece text rest → IsRun text rest
run_of [] rest k t o e f piece = absurd piece
run_of (b ∷ bs) rest k t o e f (inl (parenthesis, alone)) =
    absurd (no_parenthesis b parenthesis t o
    (subst (λ (cs : List ℕ). symbol (kind_by Capitals (b ∷ cs)) (b ∷ cs) ≡ word t o) alone
    (subst (λ (k : Kind). symbol k (b ∷ bs) ≡ word t o) e f)))
run_of (b ∷ bs) rest k t o e f (inr (run, none)) = record {
  first = b;
  others = bs;
  is = refl;
  runs = All-get_or (λ x. IsTrue (is_run_byte x)) (b ∷ bs) 0 0 (omega arith) run;
  behind = none;
}

some_blank : (blanks text rest : List ℕ) (b : ℕ) (bs : List ℕ) → text ≡ b ∷ bs
    → is_run_byte b ≡ true → NoRunBegins (blanks ++ (text ++ rest)) → 1 ≤ length blanks
some_blank [] text rest b bs e run none =
    let first : is_run_byte b ≡ false = subst (λ (xs : List ℕ). NoRunBegins (xs ++ rest)) e none in
    absurd (cc)
some_blank (c ∷ cs) text rest b bs e run none = omega arith

-- ---- the operator

with_by : (a b c d e : Bool) (k : Kind) → (k ≡ With → ⊥)
    → (if a then Opening else (if b then Closing
    else (if c then And else (if d then Or else (if e then With else k))))) ≡ With → e ≡ true
with_by true b c d e k other is = cc
with_by false true c d e k other is = cc
with_by false false true d e k other is = cc
with_by false false false true e k other is = cc
with_by false false false false true k other is = refl
with_by false false false false false k other is = absurd (other is)

no_word_kind : (a b c d : Bool)
    → (if a then (if b then Reference else Bad)
    else (if c then Licence else (if d then LicenceOrLater else Bad))) ≡ With → ⊥
no_word_kind true true c d e = cc
no_word_kind true false c d e = cc
no_word_kind false b true d e = cc
no_word_kind false b false true e = cc
no_word_kind false b false false e = cc

with_text : (k : Kind) (w : List ℕ) → k ≡ kind_by Capitals w → symbol k w ≡ with_word
    → w ≡ codes "WITH"
with_text k w e f =
    texts_equal w (codes "WITH")
    (with_by (bytes_eq w (codes "(")) (bytes_eq w (codes ")")) (bytes_eq w (codes "AND"))
    (bytes_eq w (codes "OR")) (bytes_eq w (codes "WITH")) (word_kind w)
    (no_word_kind (begins_like_reference w) (is_reference w) (is_idstring w)
    (is_licence_or_later w)) (sym e ∙ is_with k w f))

behind_with : (text rest : List ℕ) → text ≡ codes "WITH" → IsPiece text rest → NoRunBegins rest
behind_with text rest e piece = by_cases (subst (λ (w : List ℕ). IsPiece w rest) e piece)
  where
    by_cases : IsPiece (codes "WITH") rest → NoRunBegins rest
    by_cases (inl (parenthesis, alone)) = absurd (cc)
    by_cases (inr (run, none)) = none

-- ---- the whole text

plain_length : (t : Term) → t.exception ≡ None → length (printed_term t) ≡ length (printed_word t)
plain_length t e =
    ap (λ (o : Option (List ℕ)). length (printed_word t ++ printed_exception o)) e
    ∙ omega (arith, length-append (printed_word t) [])

one_word : (text : List ℕ) (ls : List Lexeme) (t : Term) (o : Option (List ℕ)) → AreTokens 0 text ls
    → symbols ls ≡ word t o ∷ [] → length (printed_term t) ≤ length text
one_word text [] t o are e = absurd (cc)
one_word text (l ∷ ls) t o (rest, first, more) e =
    let is : symbol_of l ≡ word t o = cc in
    let short = short_word l.kind l.text t o (word_of Capitals l.kind l.text first.kind) is in
    let cut : length text ≡ length (first.blanks ++ (l.text ++ rest)) =
    ap (λ (bs : List ℕ). length bs) first.cut in
    omega (
      arith,
      short.0,
      plain_length t short.1,
      cut,
      length-append first.blanks (l.text ++ rest),
      length-append l.text rest,
    )

three_words : (text : List ℕ) (ls : List Lexeme) (v u : Term) (o : Option (List ℕ)) (x : List ℕ)
    → AreTokens 0 text ls → symbols ls ≡ word v o ∷ with_word ∷ word u (Some x) ∷ []
    → length (printed_term (with_exception v x)) ≤ length text
three_words text [] v u o x are e = absurd (cc)
three_words text (a ∷ []) v u o x are e = absurd (cc)
three_words text (a ∷ b ∷ []) v u o x are e = absurd (cc)
three_words text (a ∷ b ∷ c ∷ ls) v u o x (rest, first, (rest', second, (rest'', third, more))) e =
    let is_a : symbol_of a ≡ word v o = cc in
    let is_b : symbol_of b ≡ with_word = cc in
    let is_c : symbol_of c ≡ word u (Some x) = cc in
    let short = short_word a.kind a.text v o (word_of Capitals a.kind a.text first.kind) is_a in
    let word_b = with_text b.kind b.text second.kind is_b in
    let run_a = run_of a.text rest a.kind v o first.kind is_a first.piece in
    let run_c = run_of c.text rest'' c.kind u (Some x) third.kind is_c third.piece in
    let blank_b = some_blank second.blanks b.text rest' 87 (73 ∷ 84 ∷ 72 ∷ []) word_b refl
    (subst NoRunBegins second.cut run_a.behind) in
    let blank_c = some_blank third.blanks c.text rest'' run_c.first run_c.others run_c.is run_c.runs
    (subst NoRunBegins third.cut (behind_with b.text rest' word_b second.piece)) in
    let cut : length text ≡ length (first.blanks ++ (a.text ++ rest)) =
    ap (λ (bs : List ℕ). length bs) first.cut in
    let cut' : length rest ≡ length (second.blanks ++ (b.text ++ rest')) =
    ap (λ (bs : List ℕ). length bs) second.cut in
    let cut'' : length rest' ≡ length (third.blanks ++ (c.text ++ rest'')) =
    ap (λ (bs : List ℕ). length bs) third.cut in
    let four : length b.text ≡ 4 = ap (λ (bs : List ℕ). length bs) word_b in
    omega (
      arith,
      short.0,
      short_exception c.kind c.text u x is_c,
      blank_b,
      blank_c,
      cut,
      cut',
      cut'',
      four,
      length-append first.blanks (a.text ++ rest),
      length-append a.text rest,
      length-append second.blanks (b.text ++ rest'),
      length-append b.text rest',
      length-append third.blanks (c.text ++ rest''),
      length-append c.text rest'',
      length-append (printed_word v) (codes " WITH " ++ x),
      length-append (codes " WITH ") x,
    )

printed_short : (text : List ℕ) (t : Term) → SpellsTermAlone text t
    → length (printed_term t) ≤ length text
printed_short text t (ls, are, spells) =
    elim (term_inv (symbols ls) t spells) [
      | inl (o, e) ↦ one_word text ls t o are e
      | inr (v, u, o, x, e, same) ↦
          subst (λ (y : Term). length (printed_term y) ≤ length text) same
          (three_words text ls v u o x are e)
    ]

pub spells_itself : (text : List ℕ) (t : Term) → is_term t ≡ true → SpellsTermWithin text t
    → SpellsTermWithin (printed_term t) t
spells_itself text t well (short, alone) = (
  omega (arith, printed_short text t alone),
  printed_term_spells t well,
)
