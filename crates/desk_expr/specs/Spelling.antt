-- Which text spells which tree or term, and where a text stops that spells none.
use Rattle.std.specs.Prelude.{◌≡◌, ◌≢◌, ◌⊎◌, ℕ, zero, suc, ◌+◌, ◌-◌, ◌<◌, ◌≤◌, Bool, true, false}
use Rattle.std.specs.Prelude.{◌&&◌, not, if◌then◌else◌, List, [], ◌∷◌, ◌++◌, length, take, map}
use Rattle.std.specs.Prelude.{fold, slice_get, Some}
use Rattle.desk_base.specs.Limits as limit
use Rattle.desk_expr.specs.declared.fault.ParseFault.{ParseFault}
use Rattle.desk_expr.specs.declared.fault.ParseFault.TheVariants.{Empty, BadToken, Unexpected}
use Rattle.desk_expr.specs.declared.fault.ParseFault.TheVariants.{Unclosed, TooDeep, TooLong}
use Rattle.desk_expr.specs.declared.fault.ParseFault.TheVariants.{TooManyTerms, Memory}
use Rattle.desk_tokens.specs.declared.token.Kind.{Kind}
use Rattle.desk_tokens.specs.declared.token.Kind.TheVariants as kind
use Rattle.desk_expr.specs.declared.term.Term.{Term}
use Rattle.desk_expr.specs.Tree.{Tree}
use Rattle.desk_expr.specs.Words.{licence_term, or_later_term, reference_term}
use Rattle.desk_tokens.specs.Tokens.{Lexeme, AreTokensBy}
use Rattle.desk_base.specs.declared.profile.Profile.{Profile}
use Rattle.desk_base.specs.declared.profile.Profile.TheVariants.{Capitals}
use Rattle.desk_expr.specs.Grammar.{Symbol, opening, closing, and_word, or_word, with_word, word}
use Rattle.desk_expr.specs.Grammar.{bad, SpellsTree, SpellsTerm}
use Rattle.desk_base.specs.Folded.{folded}
use Rattle.std.specs.Prelude.{None}

-- the symbol of a token: a licence id without a plus may be an exception
abbrev pub symbol : Kind → List ℕ → Symbol
symbol kind.Opening w = opening
symbol kind.Closing w = closing
symbol kind.And w = and_word
symbol kind.Or w = or_word
symbol kind.With w = with_word
symbol kind.Licence w = word (licence_term w) (Some (folded w))
symbol kind.LicenceOrLater w = word (or_later_term w) None
symbol kind.Reference w = word (reference_term w) None
symbol kind.Bad w = bad

-- the symbol of a token, by its kind and its bytes
abbrev pub symbol_of : Lexeme → Symbol
symbol_of t = symbol t.kind t.text

-- the symbols of some tokens, in order
abbrev pub symbols : List Lexeme → List Symbol
symbols ts = map symbol_of ts

-- ---- limits

-- the places of the parentheses still open, in the order of the text: an opening one adds its
-- place, a closing one removes the last place
abbrev pub open_after : List ℕ → Lexeme → List ℕ
open_after places t = open_by t.kind places t.start
  where
    open_by : Kind → List ℕ → ℕ → List ℕ
    open_by kind.Opening ps p = ps ++ p ∷ []
    open_by kind.Closing ps p = take (length ps - 1) ps
    open_by _ ps p = ps

-- the places of the parentheses that are open after all these tokens
abbrev pub still_open : List Lexeme → List ℕ
still_open ts = fold open_after [] ts

-- how many words are operands: those that don't directly follow a WITH
abbrev pub is_word : Symbol → Bool
is_word (word t x) = true
is_word _ = false

-- the operator WITH
abbrev pub is_with : Symbol → Bool
is_with with_word = true
is_with _ = false

-- how many words are operands, given whether a WITH comes directly before them
abbrev pub operand_words_after : Bool → List Symbol → ℕ
operand_words_after after_with [] = 0
operand_words_after after_with (s ∷ ss) = (if is_word s && not after_with then 1 else 0)
    + operand_words_after (is_with s) ss

-- how many words of a list are operands; a repeated word counts each time
abbrev pub operand_words : List Symbol → ℕ
operand_words ss = operand_words_after false ss

-- the tokens are within the limits
pub record KeepsLimits (ts : List Lexeme) : Type 0 where
  pub depth : length (still_open ts) ≤ limit.open_parentheses
  pub terms : operand_words (symbols ts) ≤ limit.expression_terms

-- a fact holds for each front of the list, including the list itself
abbrev pub AllFronts : (List Lexeme → Type 0) → List Lexeme → Type 0
AllFronts P ts = (n : ℕ) → P (take n ts)

-- ---- what a text spells, read by a profile of operators

-- the text spells the tree
abbrev pub SpellsBy : Profile → List ℕ → Tree → Type 0
SpellsBy profile text e = (ts : List Lexeme) × AreTokensBy profile 0 text ts
    × SpellsTree (symbols ts) e

-- the text spells the tree within the limits
abbrev pub SpellsWithinBy : Profile → List ℕ → Tree → Type 0
SpellsWithinBy profile text e =
    (length text ≤ limit.expression_bytes)
    × (ts : List Lexeme) × AreTokensBy profile 0 text ts × SpellsTree (symbols ts) e
    × AllFronts KeepsLimits ts

-- the text spells one term and nothing else
abbrev pub SpellsTermAloneBy : Profile → List ℕ → Term → Type 0
SpellsTermAloneBy profile text t = (ts : List Lexeme) × AreTokensBy profile 0 text ts
    × SpellsTerm (symbols ts) t

-- the text spells one term and is not too long
abbrev pub SpellsTermWithinBy : Profile → List ℕ → Term → Type 0
SpellsTermWithinBy profile text t = (length text ≤ limit.expression_bytes)
    × SpellsTermAloneBy profile text t

-- ---- the same with operators in capitals

-- the text spells the tree, with AND, OR and WITH in capitals (SPDX 2.3, Annex D.1)
abbrev pub Spells : List ℕ → Tree → Type 0
Spells text e = SpellsBy Capitals text e

-- the same within the limits on bytes, open parentheses and terms
abbrev pub SpellsWithin : List ℕ → Tree → Type 0
SpellsWithin text e = SpellsWithinBy Capitals text e

-- the text spells one term and nothing else
abbrev pub SpellsTermAlone : List ℕ → Term → Type 0
SpellsTermAlone text t = SpellsTermAloneBy Capitals text t

-- the same within the limit on bytes
abbrev pub SpellsTermWithin : List ℕ → Term → Type 0
SpellsTermWithin text t = SpellsTermWithinBy Capitals text t

-- the text spells no term
abbrev pub SpellsNoTerm : List ℕ → Type 0
SpellsNoTerm text = (t : Term) → SpellsTermWithin text t → ⊥

-- ---- where a text stops that spells nothing, or breaks a limit

-- so many closing parentheses
abbrev pub closings : ℕ → List Symbol
closings zero = []
closings (suc n) = closing ∷ closings n

-- for a language of symbol lists: that of trees or that of terms
module _ {A : Type 0} (Language : List Symbol → A → Type 0) where
  -- some list of the language begins with the symbols
  abbrev pub Begins : List Symbol → Type 0
  Begins ss = (r : List Symbol) × (a : A) × Language (ss ++ r) a

  -- closing parentheses alone complete the symbols
  abbrev pub ClosingsComplete : List Symbol → Type 0
  ClosingsComplete ss = (n : ℕ) × (a : A) × Language (ss ++ closings n) a

  -- a front that is allowed: it begins a list of the language and is within the limits
  pub record Stands (front : List Lexeme) : Type 0 where
    pub begins : Begins (symbols front)
    pub depth : length (still_open front) ≤ limit.open_parentheses
    pub terms : operand_words (symbols front) ≤ limit.expression_terms

  -- why a token can't come after a front: the first reason that applies
  abbrev pub Reason : List Lexeme → Lexeme → ParseFault → Type 0
  Reason front t (BadToken place) = (t.kind ≡ kind.Bad) × (place ≡ t.start)
  Reason front t (Unexpected place) =
      (t.kind ≢ kind.Bad) × (Begins (symbols (front ++ t ∷ [])) → ⊥) × (place ≡ t.start)
  Reason front t (TooDeep place) =
      Begins (symbols (front ++ t ∷ []))
      × (limit.open_parentheses < length (still_open (front ++ t ∷ []))) × (place ≡ t.start)
  Reason front t (TooManyTerms place) =
      Begins (symbols (front ++ t ∷ []))
      × (length (still_open (front ++ t ∷ [])) ≤ limit.open_parentheses)
      × (limit.expression_terms < operand_words (symbols (front ++ t ∷ [])))
      × (place ≡ t.start)
  Reason front t (Empty place) = ⊥
  Reason front t (Unclosed place) = ⊥
  Reason front t (TooLong place) = ⊥
  Reason front t (Memory error) = ⊥

  -- the first token of the text that can't be there, with the reason
  abbrev pub StopsAtToken : Profile → List ℕ → ParseFault → Type 0
  StopsAtToken profile text fault =
      (front : List Lexeme) × (t : Lexeme) × (behind : List Lexeme)
      × AreTokensBy profile 0 text (front ++ t ∷ behind) × AllFronts Stands front
      × Reason front t fault

  -- why a text of this length can't end after the tokens
  abbrev pub EndReason : ℕ → List Lexeme → ParseFault → Type 0
  EndReason end ts (Unclosed place) =
      ClosingsComplete (symbols ts)
      × ((a : A) → Language (symbols ts) a → ⊥)
      × (slice_get (still_open ts) (length (still_open ts) - 1) ≡ Some place)
  EndReason end ts (Unexpected place) = (ClosingsComplete (symbols ts) → ⊥) × (place ≡ end)
  EndReason end ts (Empty place) = ⊥
  EndReason end ts (BadToken place) = ⊥
  EndReason end ts (TooDeep place) = ⊥
  EndReason end ts (TooLong place) = ⊥
  EndReason end ts (TooManyTerms place) = ⊥
  EndReason end ts (Memory error) = ⊥

  -- every token can be there, and yet the text spells nothing
  abbrev pub StopsAtEnd : Profile → List ℕ → ParseFault → Type 0
  StopsAtEnd profile text fault =
      (t : Lexeme) × (behind : List Lexeme)
      × AreTokensBy profile 0 text (t ∷ behind) × AllFronts Stands (t ∷ behind)
      × EndReason (length text) (t ∷ behind) fault

  -- the stop of a text that is read by a profile; lack of memory may be reported for any text
  abbrev pub IsStopBy : Profile → List ℕ → ParseFault → Type 0
  IsStopBy profile text (TooLong place) = (limit.expression_bytes < length text) × (place ≡ 0)
  IsStopBy profile text (Empty place) = (length text ≤ limit.expression_bytes)
      × AreTokensBy profile 0 text [] × (place ≡ 0)
  IsStopBy profile text (BadToken place) = (length text ≤ limit.expression_bytes)
      × StopsAtToken profile text (BadToken place)
  IsStopBy profile text (Unexpected place) =
      (length text ≤ limit.expression_bytes)
      × (StopsAtToken profile text (Unexpected place) ⊎ StopsAtEnd profile text (Unexpected place))
  IsStopBy profile text (Unclosed place) = (length text ≤ limit.expression_bytes)
      × StopsAtEnd profile text (Unclosed place)
  IsStopBy profile text (TooDeep place) = (length text ≤ limit.expression_bytes)
      × StopsAtToken profile text (TooDeep place)
  IsStopBy profile text (TooManyTerms place) = (length text ≤ limit.expression_bytes)
      × StopsAtToken profile text (TooManyTerms place)
  IsStopBy profile text (Memory error) = Unit {0}

  -- the same with operators in capitals
  abbrev pub IsStop : List ℕ → ParseFault → Type 0
  IsStop text fault = IsStopBy Capitals text fault
