-- What has been read of a text's tokens.
use Rattle.std.specs.Prelude.{◌≡◌, ◌↔◌, ℕ, Bool, true, false, List, [], ◌∷◌, ◌++◌}
use Rattle.desk_expr.specs.declared.progress.Progress.{Progress}
use Rattle.desk_expr.specs.declared.fault.ParseFault.{ParseFault}
use Rattle.desk_expr.specs.declared.fault.ParseFault.TheVariants.{Empty, BadToken, Unexpected}
use Rattle.desk_expr.specs.declared.fault.ParseFault.TheVariants.{Unclosed, TooDeep, TooLong}
use Rattle.desk_expr.specs.declared.fault.ParseFault.TheVariants.{TooManyTerms, Memory}
use Rattle.desk_expr.specs.Tree.{Tree}
use Rattle.desk_tokens.specs.Tokens.{Lexeme}
use Rattle.desk_expr.specs.Grammar.{Symbol, SpellsTree}
use Rattle.desk_expr.specs.Spelling.{symbols, still_open, operand_words, is_with, Stands, AllFronts, Reason, EndReason}
use Rattle.desk_expr.specs.Reading.{Rest}

-- whether the list has an element
abbrev pub is_started : List Lexeme → Bool
is_started [] = false
is_started (t ∷ ts) = true

-- whether the last symbol is WITH
abbrev pub ends_with_with : Bool → List Symbol → Bool
ends_with_with b [] = b
ends_with_with b (s ∷ ss) = ends_with_with (is_with s) ss

-- these tokens have been read, and each front of them is allowed
pub record HasRead (front : List Lexeme) (m : Progress) : Type 0 where
  pub rest : (r : List Symbol) (e : Tree) → SpellsTree (symbols front ++ r) e ↔ Rest m.reader r e
  pub open_places : m.counts.open_places.items ≡ still_open front
  pub terms : m.counts.terms ≡ operand_words (symbols front)
  pub after_with : m.counts.after_with ≡ ends_with_with false (symbols front)
  pub started : m.started ≡ is_started front
  pub stands : AllFronts (Stands SpellsTree) front

-- the token can't come after those before it; lack of memory may be reported for any
abbrev pub StopsAfter : List Lexeme → Lexeme → ParseFault → Type 0
StopsAfter front t (Memory error) = Unit {0}
StopsAfter front t (Empty place) = ⊥
StopsAfter front t (BadToken place) = Reason SpellsTree front t (BadToken place)
StopsAfter front t (Unexpected place) = Reason SpellsTree front t (Unexpected place)
StopsAfter front t (Unclosed place) = ⊥
StopsAfter front t (TooDeep place) = Reason SpellsTree front t (TooDeep place)
StopsAfter front t (TooLong place) = ⊥
StopsAfter front t (TooManyTerms place) = Reason SpellsTree front t (TooManyTerms place)

-- the tokens can't end a text of this length
abbrev pub EndsAfter : List Lexeme → ℕ → ParseFault → Type 0
EndsAfter ts end (Empty place) = (is_started ts ≡ false) × (place ≡ 0)
EndsAfter ts end (Unexpected place) = (is_started ts ≡ true)
    × EndReason SpellsTree end ts (Unexpected place)
EndsAfter ts end (Unclosed place) = (is_started ts ≡ true)
    × EndReason SpellsTree end ts (Unclosed place)
EndsAfter ts end (Memory error) = Unit {0}
EndsAfter ts end (BadToken place) = ⊥
EndsAfter ts end (TooDeep place) = ⊥
EndsAfter ts end (TooLong place) = ⊥
EndsAfter ts end (TooManyTerms place) = ⊥
