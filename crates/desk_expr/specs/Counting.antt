-- One more token in the counts that the limits are about.
use Rattle.std.specs.Prelude.{◌≡◌, ℕ, ◌+◌, ◌<◌, ◌≤◌, ◌&&◌, Bool, not, if◌then◌else◌, length}
use Rattle.desk_base.specs.Limits as limit
use Rattle.desk_expr.specs.declared.counts.Counts.{Counts}
use Rattle.desk_expr.specs.declared.fault.ParseFault.{ParseFault}
use Rattle.desk_expr.specs.declared.fault.ParseFault.TheVariants.{Empty, BadToken, Unexpected}
use Rattle.desk_expr.specs.declared.fault.ParseFault.TheVariants.{Unclosed, TooDeep, TooLong}
use Rattle.desk_expr.specs.declared.fault.ParseFault.TheVariants.{TooManyTerms, Memory}
use Rattle.desk_tokens.specs.Tokens.{Lexeme}
use Rattle.desk_expr.specs.Spelling.{symbol_of, open_after, is_word, is_with}

-- the number of terms after one more token
abbrev pub terms_after : ℕ → Bool → Lexeme → ℕ
terms_after terms after_with t = terms + (if is_word (symbol_of t) && not after_with then 1 else 0)

-- the new counts include the token, and are within the limits
pub record CountsToken (old : Counts) (t : Lexeme) (new : Counts) : Type 0 where
  pub open_places : new.open_places.items ≡ open_after old.open_places.items t
  pub terms : new.terms ≡ terms_after old.terms old.after_with t
  pub after_with : new.after_with ≡ is_with (symbol_of t)
  pub depth : length new.open_places.items ≤ limit.open_parentheses
  pub few : new.terms ≤ limit.expression_terms

-- why a token is over a limit
abbrev pub IsOver : Counts → Lexeme → ParseFault → Type 0
IsOver old t (TooDeep place) = (limit.open_parentheses
    < length (open_after old.open_places.items t)) × (place ≡ t.start)
IsOver old t (TooManyTerms place) =
    (length (open_after old.open_places.items t) ≤ limit.open_parentheses)
    × (limit.expression_terms < terms_after old.terms old.after_with t)
    × (place ≡ t.start)
IsOver old t (Memory error) = Unit {0}
IsOver old t (Empty place) = ⊥
IsOver old t (BadToken place) = ⊥
IsOver old t (Unexpected place) = ⊥
IsOver old t (Unclosed place) = ⊥
IsOver old t (TooLong place) = ⊥
