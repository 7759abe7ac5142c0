-- Texts put together from tokens and blanks.
use Rattle.std.proofs.Common.{◌≡◌, ◌∙◌, inl, inr, ℕ, ◌+◌, ◌<◌, List, [], ◌∷◌, ◌++◌, length, sym}
use Rattle.std.proofs.Common.{subst, ap, refl, arith, true, length-append, append_assoc, add-zero}
use Rattle.std.proofs.lemmas.List.Elements.{All-cons}
use Rattle.std.specs.Prelude.{IsTrue, All}
use Rattle.desk_base.specs.declared.profile.Profile.TheVariants.{Capitals}
use Rattle.desk_tokens.specs.Words.{kind_by}
use Rattle.desk_tokens.specs.Tokens.{is_parenthesis, is_run_byte, NoRunBegins, IsPiece, Lexeme, AreTokens}
use Rattle.desk_expr.specs.Grammar.{Symbol}
use Rattle.desk_expr.specs.Spelling.{symbol, symbols}
use Rattle.desk_base.specs.Bytes.{is_blank}

-- whatever follows, the tokens of the text are those of its front and those of what follows
abbrev pub Follows : ℕ → List ℕ → List Symbol → List ℕ → List Lexeme → Type 0
Follows place x ss y us = (ts : List Lexeme) × AreTokens place (x ++ y) ts
    × (symbols ts ≡ ss ++ symbols us)

abbrev pub Lexes : List ℕ → List Symbol → Type 0
Lexes x ss = (place : ℕ) (y : List ℕ) (us : List Lexeme) → AreTokens (place + length x) y us
    → Follows place x ss y us

-- the same, if no run continues after the front
abbrev pub LexesAlone : List ℕ → List Symbol → Type 0
LexesAlone x ss = (place : ℕ) (y : List ℕ) (us : List Lexeme) → NoRunBegins y
    → AreTokens (place + length x) y us → Follows place x ss y us

-- a text that doesn't begin with a byte of a run, whatever follows
abbrev pub EndsRuns : List ℕ → Type 0
EndsRuns x = (y : List ℕ) → NoRunBegins (x ++ y)

pub lexes_alone : (x : List ℕ) (ss : List Symbol) → Lexes x ss → LexesAlone x ss
lexes_alone x ss h place y us stops are = h place y us are

pub lexes_none : Lexes [] []
lexes_none place y us are = (us, subst (λ p. AreTokens p y us) (add-zero place) are, refl)

joins : (place : ℕ) (a b y : List ℕ) (ss tt : List Symbol) (us : List Lexeme) (vs : List Lexeme)
    → symbols vs ≡ tt ++ symbols us → Follows place a ss (b ++ y) vs
    → Follows place (a ++ b) (ss ++ tt) y us
joins place a b y ss tt us vs is (ts, are, same) = (
  ts,
  subst (λ l. AreTokens place l ts) (sym (append_assoc a b y)) are,
  same ∙ ap (λ l. ss ++ l) is ∙ sym (append_assoc ss tt (symbols us)),
)

moved : (place : ℕ) (a b y : List ℕ) (us : List Lexeme) → AreTokens (place + length (a ++ b)) y us
    → AreTokens (place + length a + length b) y us
moved place a b y us are =
    let is : place + length (a ++ b) ≡ place + length a + length b =
    omega (arith, length-append a b) in subst (λ p. AreTokens p y us) is are

pub lexes_then : (a b : List ℕ) (ss tt : List Symbol) → Lexes a ss → Lexes b tt
    → Lexes (a ++ b) (ss ++ tt)
lexes_then a b ss tt h k place y us are =
    let second = k (place + length a) y us (moved place a b y us are) in
    joins place a b y ss tt us second.0 second.2 (h place (b ++ y) second.0 second.1)

pub alone_then : (a b : List ℕ) (ss tt : List Symbol) → LexesAlone a ss → EndsRuns b → Lexes b tt
    → Lexes (a ++ b) (ss ++ tt)
alone_then a b ss tt h ends k place y us are =
    let second = k (place + length a) y us (moved place a b y us are) in
    joins place a b y ss tt us second.0 second.2 (h place (b ++ y) second.0 (ends y) second.1)

pub alone_then_alone : (a b : List ℕ) (ss tt : List Symbol) → LexesAlone a ss → EndsRuns b
    → LexesAlone b tt → LexesAlone (a ++ b) (ss ++ tt)
alone_then_alone a b ss tt h ends k place y us stops are =
    let second = k (place + length a) y us stops (moved place a b y us are) in
    joins place a b y ss tt us second.0 second.2 (h place (b ++ y) second.0 (ends y) second.1)

pub then_alone : (a b : List ℕ) (ss tt : List Symbol) → Lexes a ss → LexesAlone b tt
    → LexesAlone (a ++ b) (ss ++ tt)
then_alone a b ss tt h k place y us stops are =
    let second = k (place + length a) y us stops (moved place a b y us are) in
    joins place a b y ss tt us second.0 second.2 (h place (b ++ y) second.0 second.1)

-- ---- blanks, parentheses and runs

blank_before : (place : ℕ) (y : List ℕ) (us : List Lexeme) → AreTokens (place + 1) y us
    → AreTokens place (32 ∷ y) us
blank_before place y [] are = All-cons (λ b. IsTrue (is_blank b)) 32 y refl are
blank_before place y (t ∷ us) (rest, first, more) = (
  rest,
  record {
    blanks = 32 ∷ first.blanks;
    only_blanks = All-cons (λ b. IsTrue (is_blank b)) 32 first.blanks refl first.only_blanks;
    cut = ap (λ l. 32 ∷ l) first.cut;
    start = (let is = first.start in omega (arith, is));
    end = first.end;
    piece = first.piece;
    kind = first.kind;
  },
  more,
)

pub lexes_blank : Lexes (32 ∷ []) []
lexes_blank place y us are = (us, blank_before place y us are, refl)

-- a piece in front
piece_before : (w : List ℕ) (place : ℕ) (y : List ℕ) (us : List Lexeme) → IsPiece w y
    → AreTokens (place + length w) y us → Follows place w (symbol (kind_by Capitals w) w ∷ []) y us
piece_before w place y us piece are =
    let t : Lexeme = record {
      text = w;
      start = place;
      end = place + length w;
      kind = kind_by Capitals w;
    } in (
      t ∷ us,
      (
        y,
        record {
          blanks = [];
          only_blanks = λ k d within. absurd (omega arith);
          cut = refl;
          start = sym (add-zero place);
          end = refl;
          piece = piece;
          kind = refl;
        },
        are,
      ),
      refl,
    )

pub lexes_parenthesis : (b : ℕ) → is_parenthesis b ≡ true
    → Lexes (b ∷ []) (symbol (kind_by Capitals (b ∷ [])) (b ∷ []) ∷ [])
lexes_parenthesis b h place y us are = piece_before (b ∷ []) place y us (inl (h, refl)) are

run_piece : (w y : List ℕ) → 0 < length w → All (λ b. IsTrue (is_run_byte b)) w → NoRunBegins y
    → IsPiece w y
run_piece [] y some only stops = absurd (omega arith)
run_piece (b ∷ bs) y some only stops = inr (only, stops)

pub lexes_run : (w : List ℕ) → 0 < length w → All (λ b. IsTrue (is_run_byte b)) w
    → LexesAlone w (symbol (kind_by Capitals w) w ∷ [])
lexes_run w some only place y us stops are = piece_before w place y us
    (run_piece w y some only stops) are
