-- A text that spells no term has a stop, and only one.
use Rattle.std.proofs.Common.{◌≡◌, ◌∙◌, inl, inr, ℕ, zero, suc, ◌<◌, ◌≤◌, false, List, [], ◌∷◌}
use Rattle.std.proofs.Common.{◌++◌, length, ap, append_assoc, refl, arith, Some}
use Rattle.std.proofs.Common.{None}
use Rattle.desk_base.specs.Limits as limit
use Rattle.desk_base.specs.declared.profile.Profile.{Profile}
use Rattle.desk_expr.specs.declared.fault.ParseFault.{ParseFault}
use Rattle.desk_expr.specs.declared.fault.ParseFault.TheVariants.{TooLong}
use Rattle.desk_expr.specs.declared.term.Term.{Term}
use Rattle.desk_tokens.specs.declared.token.Kind.TheVariants as kind
use Rattle.desk_expr.specs.Faults.{fault_number}
use Rattle.desk_tokens.specs.Tokens.{Lexeme}
use Rattle.desk_expr.specs.Words.{with_exception}
use Rattle.desk_expr.specs.Grammar.{Symbol, closing, with_word, word, bad, SpellsTerm, bare, excepted}
use Rattle.desk_expr.specs.Spelling.{symbol, symbol_of, symbols, still_open, closings, Begins}
use Rattle.desk_expr.specs.Spelling.{IsStopBy, SpellsTermWithinBy}
use Rattle.desk_expr.proofs.ParseLemmas.{symbols_behind}
use Rattle.desk_expr.proofs.TermLemmas.{term_inv, good_term, has_words}
use Rattle.desk_alts.proofs.Decide.{Decided, SomeOrNone, decided_le}
use Rattle.desk_alts.proofs.Stops.{spelled_or_stops}
use Rattle.desk_alts.proofs.OneStop as once

no_bad_begins : (front : List Lexeme) (t : Lexeme) → t.kind ≡ kind.Bad
    → Begins SpellsTerm (symbols (front ++ t ∷ [])) → ⊥
no_bad_begins front t is (r, e, h) =
    let there : symbols (front ++ t ∷ []) ++ r ≡ symbols front ++ symbol_of t ∷ r =
    ap (λ l. l ++ r) (symbols_behind front t [])
    ∙ append_assoc (symbols front) (symbol_of t ∷ []) r in
    let same : symbol_of t ≡ bad = ap (λ k. symbol k t.text) is in
    good_term (symbols (front ++ t ∷ []) ++ r) e h (symbols front) r
    (there ∙ ap (λ s. symbols front ++ s ∷ r) same)

some_term : Term
some_term = record { key = []; plus = false; exception = None }

begins_or_not : (ss : List Symbol) → Decided (Begins SpellsTerm ss)
begins_or_not [] = inl (word some_term None ∷ [], some_term, bare some_term None)
begins_or_not (word t o ∷ []) = inl ([], t, bare t o)
begins_or_not (word t o ∷ with_word ∷ []) = inl (
  word t (Some []) ∷ [],
  with_exception t [],
  excepted t t o [],
)
begins_or_not (word t o ∷ with_word ∷ word u (Some x) ∷ []) = inl (
  [],
  with_exception t x,
  excepted t u o x,
)
begins_or_not (s ∷ ss) = inr (λ (r, a, h). elim (term_inv ((s ∷ ss) ++ r) a h)
    [ inl (o, e) ↦ cc | inr (v, u, o, x, e, k) ↦ cc ])

spelled_or_not : (ss : List Symbol) → SomeOrNone (SpellsTerm ss)
spelled_or_not (word t o ∷ []) = inl (t, bare t o)
spelled_or_not (word t o ∷ with_word ∷ word u (Some x) ∷ []) = inl (
  with_exception t x,
  excepted t u o x,
)
spelled_or_not ss = inr (λ a h. elim (term_inv ss a h)
    [ inl (o, e) ↦ cc | inr (v, u, o, x, e, k) ↦ cc ])

-- a term has no closing parenthesis
no_closing : (ss : List Symbol) (t : Term) → SpellsTerm ss t → (front behind : List Symbol)
    → ss ≡ front ++ closing ∷ behind → ⊥
no_closing = has_words closing (λ t o e. cc) (λ e. cc)

few_close : (ts : List Lexeme) (n : ℕ) (a : Term) → SpellsTerm (symbols ts ++ closings n) a
    → n ≤ length (still_open ts)
few_close ts zero a h = omega arith
few_close ts (suc n) a h = absurd (no_closing (symbols ts ++ closings (suc n)) a h (symbols ts)
    (closings n) refl)

pub some_term_stop : (profile : Profile) (text : List ℕ)
    → ((t : Term) → SpellsTermWithinBy profile text t → ⊥)
    → (f : ParseFault) × (0 < fault_number f) × IsStopBy SpellsTerm profile text f
some_term_stop profile text none =
    elim (decided_le (length text) limit.expression_bytes) [
      | inr long ↦ (TooLong 0, omega arith, (omega (arith, long), refl))
      | inl short ↦ elim (spelled_or_stops SpellsTerm begins_or_not spelled_or_not few_close
          (word some_term None ∷ [], some_term, bare some_term None) profile text short) [
            | inl (ts, are, stands, t, h) ↦ absurd (none t (short, (ts, are, h)))
            | inr stop ↦ (stop.0, stop.2, stop.1)
          ]
    ]

pub one_term_stop : (profile : Profile) (text : List ℕ) (f g : ParseFault) → 0 < fault_number f
    → 0 < fault_number g → IsStopBy SpellsTerm profile text f → IsStopBy SpellsTerm profile text g
    → f ≡ g
one_term_stop = once.one_stop SpellsTerm no_bad_begins
