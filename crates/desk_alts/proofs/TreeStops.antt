-- A text that spells no tree within the limits has a stop, and only one.
use Rattle.std.proofs.Common.{◌≡◌, ◌∙◌, inl, inr, ℕ, ◌<◌, List, [], ◌∷◌, ◌++◌, length, subst, ap}
use Rattle.std.proofs.Common.{append_assoc, refl, arith}
use Rattle.desk_base.specs.Limits as limit
use Rattle.desk_base.specs.declared.profile.Profile.{Profile}
use Rattle.desk_expr.specs.declared.fault.ParseFault.{ParseFault}
use Rattle.desk_expr.specs.declared.fault.ParseFault.TheVariants.{TooLong}
use Rattle.desk_tokens.specs.declared.token.Kind.TheVariants as kind
use Rattle.desk_expr.specs.Faults.{fault_number}
use Rattle.desk_tokens.specs.Tokens.{Lexeme}
use Rattle.desk_expr.specs.Tree.{Tree}
use Rattle.desk_expr.specs.Grammar.{bad, SpellsTree}
use Rattle.desk_expr.specs.Spelling.{symbol, symbol_of, symbols, Begins, IsStopBy, SpellsWithinBy}
use Rattle.desk_expr.proofs.Balance.{no_bad, completed_open}
use Rattle.desk_expr.proofs.ParseLemmas.{symbols_behind}
use Rattle.desk_alts.proofs.Decide.{decided_le}
use Rattle.desk_alts.proofs.Trees.{tree_or_none}
use Rattle.desk_alts.proofs.Begun.{begins_or_not, nothing_begins}
use Rattle.desk_alts.proofs.Stops.{spelled_or_stops}
use Rattle.desk_alts.proofs.OneStop as once

no_bad_begins : (front : List Lexeme) (t : Lexeme) → t.kind ≡ kind.Bad
    → Begins SpellsTree (symbols (front ++ t ∷ [])) → ⊥
no_bad_begins front t is (r, e, h) =
    let bad_there : symbols (front ++ t ∷ []) ++ r ≡ symbols front ++ symbol_of t ∷ r =
    ap (λ l. l ++ r) (symbols_behind front t [])
    ∙ append_assoc (symbols front) (symbol_of t ∷ []) r in
    let same : symbol_of t ≡ bad = ap (λ k. symbol k t.text) is in
    no_bad (symbols front) r e (subst (λ s. SpellsTree (symbols front ++ s ∷ r) e) same
    (subst (λ l. SpellsTree l e) bad_there h))

pub some_stop : (profile : Profile) (text : List ℕ)
    → ((e : Tree) → SpellsWithinBy profile text e → ⊥)
    → (f : ParseFault) × (0 < fault_number f) × IsStopBy SpellsTree profile text f
some_stop profile text none =
    elim (decided_le (length text) limit.expression_bytes) [
      | inr long ↦ (TooLong 0, omega arith, (omega (arith, long), refl))
      | inl short ↦ elim (spelled_or_stops SpellsTree begins_or_not tree_or_none completed_open
          nothing_begins profile text short) [
            | inl (ts, are, stands, e, h) ↦
                absurd (none e (
                  short,
                  ts,
                  are,
                  h,
                  λ n. record { depth = (stands n).depth; terms = (stands n).terms },
                ))
            | inr stop ↦ (stop.0, stop.2, stop.1)
          ]
    ]

pub one_stop : (profile : Profile) (text : List ℕ) (f g : ParseFault) → 0 < fault_number f
    → 0 < fault_number g → IsStopBy SpellsTree profile text f → IsStopBy SpellsTree profile text g
    → f ≡ g
one_stop = once.one_stop SpellsTree no_bad_begins
