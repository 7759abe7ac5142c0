-- The grammar from one place of a list to a later one: what is left after it is part of the
-- statement.
use Rattle.std.proofs.Common.{◌≡◌, ◌↔◌, ◌∙◌, List, [], ◌∷◌, ◌++◌, sym, subst, ap, refl, append_assoc, Some}
use Rattle.std.proofs.lemmas.List.{append-nil}
use Rattle.desk_expr.specs.declared.term.Term.{Term}
use Rattle.desk_expr.specs.Tree.{Tree, one}
use Rattle.desk_expr.specs.Words.{with_exception}
use Rattle.desk_expr.specs.Grammar.{Symbol, opening, closing, and_word, or_word, with_word, word}
use Rattle.desk_expr.specs.Grammar.{all_of, SpellsTerm, bare, excepted, Operand, a_term, a_group}
use Rattle.desk_expr.specs.Grammar.{AndList, one_operand, and_more, OrList, one_list, or_more}
use Rattle.desk_expr.specs.Rest.{OperandRun, bare_run, excepted_run, group_run, AndRun}
use Rattle.desk_expr.specs.Rest.{last_operand, next_operand, OrRun, last_list, next_list}

term_run : {ts : List Symbol} {t : Term} → SpellsTerm ts t → (r : List Symbol)
    → OperandRun (ts ++ r) (one t) r
term_run (bare t o) r = bare_run t o r
term_run (excepted t u o x) r = excepted_run t u o x r

-- a list of the grammar, with anything after it
mutual
  operand_run : {ts : List Symbol} {e : Tree} → Operand ts e → (r : List Symbol)
      → OperandRun (ts ++ r) e r
  operand_run (a_term ts t h) r = term_run h r
  operand_run (a_group ts es h) r =
      group_run ((ts ++ closing ∷ []) ++ r) es r
      (subst (λ s. OrRun s es (closing ∷ r)) (sym (append_assoc ts (closing ∷ []) r))
      (or_run h (closing ∷ r)))

  and_run : {ts : List Symbol} {es : List Tree} → AndList ts es → (r : List Symbol)
      → AndRun (ts ++ r) es r
  and_run (one_operand ts e h) r = last_operand (ts ++ r) e r (operand_run h r)
  and_run (and_more ts us e es h k) r =
      subst (λ s. AndRun s (e ∷ es) r) (sym (append_assoc ts (and_word ∷ us) r))
      (next_operand (ts ++ and_word ∷ (us ++ r)) (us ++ r) e es r
      (operand_run h (and_word ∷ (us ++ r))) (and_run k r))

  or_run : {ts : List Symbol} {es : List Tree} → OrList ts es → (r : List Symbol)
      → OrRun (ts ++ r) es r
  or_run (one_list ts es h) r = last_list (ts ++ r) es r (and_run h r)
  or_run (or_more ts us es fs h k) r =
      subst (λ s. OrRun s (all_of es ∷ fs) r) (sym (append_assoc ts (or_word ∷ us) r))
      (next_list (ts ++ or_word ∷ (us ++ r)) (us ++ r) es fs r (and_run h (or_word ∷ (us ++ r)))
      (or_run k r))

-- what a run covers is a list of the grammar
mutual
  operand_list : {ts : List Symbol} {e : Tree} {r : List Symbol} → OperandRun ts e r
      → (front : List Symbol) × Operand front e × (ts ≡ front ++ r)
  operand_list (bare_run t o r) = (word t o ∷ [], a_term (word t o ∷ []) t (bare t o), refl)
  operand_list (excepted_run t u o x r) =
      let front : List Symbol = word t o ∷ with_word ∷ word u (Some x) ∷ [] in
      (front, a_term front (with_exception t x) (excepted t u o x), refl)
  operand_list (group_run ts es r h) =
      let f = or_list h in (
        opening ∷ f.0 ++ closing ∷ [],
        a_group f.0 es f.1,
        ap (λ s. opening ∷ s) (f.2 ∙ sym (append_assoc f.0 (closing ∷ []) r)),
      )

  and_list : {ts : List Symbol} {es : List Tree} {r : List Symbol} → AndRun ts es r
      → (front : List Symbol) × AndList front es × (ts ≡ front ++ r)
  and_list (last_operand ts e r h) =
      let f = operand_list h in
      (f.0, one_operand f.0 e f.1, f.2)
  and_list (next_operand ts us e es r h k) =
      let f = operand_list h in
      let g = and_list k in (
        f.0 ++ and_word ∷ g.0,
        and_more f.0 g.0 e es f.1 g.1,
        f.2 ∙ ap (λ s. f.0 ++ and_word ∷ s) g.2
            ∙ sym (append_assoc f.0 (and_word ∷ g.0) r),
      )

  or_list : {ts : List Symbol} {es : List Tree} {r : List Symbol} → OrRun ts es r
      → (front : List Symbol) × OrList front es × (ts ≡ front ++ r)
  or_list (last_list ts es r h) =
      let f = and_list h in
      (f.0, one_list f.0 es f.1, f.2)
  or_list (next_list ts us es fs r h k) =
      let f = and_list h in
      let g = or_list k in (
        f.0 ++ or_word ∷ g.0,
        or_more f.0 g.0 es fs f.1 g.1,
        f.2 ∙ ap (λ s. f.0 ++ or_word ∷ s) g.2
            ∙ sym (append_assoc f.0 (or_word ∷ g.0) r),
      )

-- a whole list is a run to its end
pub whole_run : (ts : List Symbol) (es : List Tree) → OrList ts es ↔ OrRun ts es []
whole_run ts es = (
  (λ h. subst (λ s. OrRun s es []) (append-nil ts) (or_run h [])),
  (λ h. let f = or_list h in subst (λ s. OrList s es) (sym (f.2 ∙ append-nil f.0)) f.1),
)
