-- No spelled tree holds without any term.
use Rattle.std.proofs.Common.{ℕ, List, [], ◌∷◌, inl, inr, subst, sym}
use Rattle.desk_base.specs.declared.profile.Profile.{Profile}
use Rattle.desk_expr.specs.declared.term.Term.{Term}
use Rattle.desk_expr.specs.Tree.{Tree, parts_of}
use Rattle.desk_expr.specs.Meaning.{Holds, SomeHolds}
use Rattle.desk_expr.specs.Grammar.{Symbol, Operand, a_term, a_group, AndList, one_operand}
use Rattle.desk_expr.specs.Grammar.{and_more, OrList, one_list, or_more, all_of, any_of}
use Rattle.desk_expr.specs.Spelling.{SpellsWithinBy}

-- no term at all
abbrev none : Term → Type 0
none t = ⊥

-- an All holds only if its first part does, an Any only if some part does
all_first : (e : Tree) (es : List Tree) → Holds none (all_of (e ∷ es)) → Holds none e
all_first e [] h = h
all_first e (f ∷ es) h = h.0

any_some : (e : Tree) (es : List Tree) → Holds none (any_of (e ∷ es))
    → SomeHolds none (parts_of (e ∷ es))
any_some e [] h = inl h
any_some e (f ∷ es) h = h

mutual
  operand_needs : {ss : List Symbol} {e : Tree} → Operand ss e → Holds none e → ⊥
  operand_needs (a_term ss t h) held = held
  operand_needs (a_group ss es h) held = group_needs h held

  and_needs : {ss : List Symbol} {es : List Tree} → AndList ss es → Holds none (all_of es) → ⊥
  and_needs (one_operand ss e h) held = operand_needs h held
  and_needs (and_more ss us e es h k) held = operand_needs h (all_first e es held)

  or_needs : {ss : List Symbol} {es : List Tree} → OrList ss es → SomeHolds none (parts_of es) → ⊥
  or_needs (one_list ss es h) held = elim held [ inl first ↦ and_needs h first | inr rest ↦ rest ]
  or_needs (or_more ss us es fs h k) held = elim held
      [ inl first ↦ and_needs h first | inr rest ↦ or_needs k rest ]

  group_needs : {ss : List Symbol} {es : List Tree} → OrList ss es → Holds none (any_of es) → ⊥
  group_needs (one_list ss es h) held = and_needs h held
  group_needs (or_more ss us es fs h k) held = elim (any_some (all_of es) fs held)
      [ inl first ↦ and_needs h first | inr rest ↦ or_needs k rest ]

pub spelled_needs : (profile : Profile) (text : List ℕ) (e : Tree) → SpellsWithinBy profile text e
    → Holds none e → ⊥
spelled_needs profile text e (short, ts, are, h, keeps) held = group_needs h.1
    (subst (Holds none) (sym h.2) held)
