-- How a text is cut into tokens: parentheses, and longest runs of other bytes between blanks and
-- parentheses.
use Rattle.std.specs.Prelude.{◌≡◌, ◌⊎◌, ℕ, ◌+◌, ◌==◌, ◌||◌, Bool, false, not, List, [], ◌∷◌, ◌++◌, length, IsTrue, All}
use Rattle.desk_tokens.specs.declared.token.Kind.{Kind}
use Rattle.desk_tokens.specs.declared.token.Token.{Token}
use Rattle.desk_tokens.specs.Words.{kind_by}
use Rattle.desk_base.specs.declared.profile.Profile.{Profile}
use Rattle.desk_base.specs.declared.profile.Profile.TheVariants.{Capitals}
use Rattle.desk_base.specs.Bytes.{is_blank}

-- `(` or `)`; each is a token, even if no blank is beside it
abbrev pub is_parenthesis : ℕ → Bool
is_parenthesis b = b == 40 || b == 41

-- a byte of a run
abbrev pub is_run_byte : ℕ → Bool
is_run_byte b = not (is_blank b || is_parenthesis b)

-- the text doesn't begin with a byte of a run
abbrev pub NoRunBegins : List ℕ → Type 0
NoRunBegins [] = Unit {0}
NoRunBegins (b ∷ bs) = is_run_byte b ≡ false

-- a parenthesis, or a longest run, with what follows it
abbrev pub IsPiece : List ℕ → List ℕ → Type 0
IsPiece [] rest = ⊥
IsPiece (b ∷ bs) rest =
    (IsTrue (is_parenthesis b) × (bs ≡ []))
    ⊎ (All (λ x. IsTrue (is_run_byte x)) (b ∷ bs) × NoRunBegins rest)

-- a token: its bytes, the place of the first of them and the place after the last, and what it is
pub record Lexeme : Type 0 where
  pub text : List ℕ
  pub start : ℕ
  pub end : ℕ
  pub kind : Kind

-- the bytes that a token borrows, with its places and its kind
abbrev pub lexeme : Token → Lexeme
lexeme t = record { text = t.text.now; start = t.start; end = t.end; kind = t.kind }

-- the first token of the bytes that begin at a place: only blanks come before it, and the rest
-- follows it
pub record IsFirstToken (profile : Profile) (place : ℕ) (bytes : List ℕ) (t : Lexeme)
    (rest : List ℕ) : Type 0 where
  pub blanks : List ℕ
  pub only_blanks : All (λ x. IsTrue (is_blank x)) blanks
  pub cut : bytes ≡ blanks ++ (t.text ++ rest)
  pub start : t.start ≡ place + length blanks
  pub end : t.end ≡ t.start + length t.text
  pub piece : IsPiece t.text rest
  pub kind : t.kind ≡ kind_by profile t.text

-- the bytes that begin at a place are these tokens, with only blanks around them, read by a profile
-- of operators
abbrev pub AreTokensBy : Profile → ℕ → List ℕ → List Lexeme → Type 0
AreTokensBy profile place bytes [] = All (λ x. IsTrue (is_blank x)) bytes
AreTokensBy profile place bytes (t ∷ ts) = (rest : List ℕ) × IsFirstToken profile place bytes t rest
    × AreTokensBy profile t.end rest ts

-- the same with operators in capitals
abbrev pub AreTokens : ℕ → List ℕ → List Lexeme → Type 0
AreTokens place bytes ts = AreTokensBy Capitals place bytes ts
