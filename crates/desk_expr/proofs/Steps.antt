-- The steps of a reader.
use Rattle.std.proofs.Common.{◌≡◌, ◌↔◌, ◌∙◌, inl, inr, ℕ, zero, suc, List, [], ◌∷◌, ◌++◌, sym}
use Rattle.std.proofs.Common.{subst, ap, refl, Option, Some}
use Rattle.std.specs.Prelude.{◌≢◌}
use Rattle.desk_expr.specs.declared.reader.Group.{Group}
use Rattle.desk_expr.specs.declared.term.Term.{Term}
use Rattle.desk_expr.specs.Tree.{Tree, one}
use Rattle.desk_expr.specs.Words.{with_exception}
use Rattle.desk_expr.specs.Grammar.{Symbol, opening, closing, and_word, or_word, with_word, word}
use Rattle.desk_expr.specs.Grammar.{all_of, any_of, SpellsTree}
use Rattle.desk_expr.specs.Spelling.{closings}
use Rattle.desk_expr.specs.Rest.{Goal, Want, After, WantException, AfterWord, Closed, Ended, OrRun}
use Rattle.desk_expr.specs.Reading.{goal_from}
use Rattle.desk_expr.proofs.Residual.{OnlyCloses, ended_closes, closed_closes, Lives, closed_lives}
use Rattle.desk_expr.proofs.Residual.{after_and, after_or, after_closing, after_closing_none}
use Rattle.desk_expr.proofs.Residual.{after_other, run_want, want_run, want_opening, want_word}
use Rattle.desk_expr.proofs.Residual.{want_other, after_end, after_end_open}
use Rattle.desk_expr.proofs.Runs.{whole_run}

pub from_closes : (K : Goal) → OnlyCloses K → (gs : List Group) → OnlyCloses (goal_from K gs)
from_closes K only [] = only
from_closes K only (g ∷ gs) = from_closes (Closed K g.lists.items g.operands.items)
    (closed_closes K g.lists.items g.operands.items) gs

pub outer_closes : (gs : List Group) → OnlyCloses (goal_from Ended gs)
outer_closes gs = from_closes Ended ended_closes gs

pub from_lives : (K : Goal) → Lives K → (gs : List Group) → Lives (goal_from K gs)
from_lives K lives [] = lives
from_lives K lives (g ∷ gs) = from_lives (Closed K g.lists.items g.operands.items)
    (closed_lives K lives g.lists.items g.operands.items) gs

-- one more group
pub from_push : (K : Goal) (gs : List Group) (g : Group)
    → goal_from K (gs ++ g ∷ []) ≡ Closed (goal_from K gs) g.lists.items g.operands.items
from_push K [] g = refl
from_push K (h ∷ gs) g = from_push (Closed K h.lists.items h.operands.items) gs g

-- at the start: nothing is open, and nothing is read
pub start_rest : (gs : List Group) (ors ands : List Tree) → gs ≡ [] → ors ≡ [] → ands ≡ []
    → (r : List Symbol) (e : Tree) → SpellsTree r e ↔ Want (goal_from Ended gs) ors ands r e
start_rest gs ors ands no_gs no_ors no_ands r e =
    subst (λ x. SpellsTree r e ↔ Want (goal_from Ended x) ors ands r e) (sym no_gs)
    (subst (λ x. SpellsTree r e ↔ Want Ended x ands r e) (sym no_ors)
    (subst (λ x. SpellsTree r e ↔ Want Ended [] x r e) (sym no_ands) (
      (λ h. run_want Ended r h.0 [] e ((whole_run r h.0).0 h.1) (refl, h.2)),
      (λ w. let at = want_run Ended r e w in
          (at.0, (whole_run r at.0).1 (subst (λ s. OrRun r at.0 s) at.3.0 at.2), at.3.1)),
    )))

module _ (gs : List Group) (ors ands : List Tree) (op : Tree) (s : Symbol) where
  pub step_and : s ≡ and_word → (new : List Tree) → new ≡ ands ++ op ∷ []
      → (r : List Symbol) (e : Tree)
      → After (goal_from Ended gs) ors ands op (s ∷ r) e ↔ Want (goal_from Ended gs) ors new r e
  step_and s_is new is r e = rw (s_is, is)
      (after_and (goal_from Ended gs) (outer_closes gs) ors ands op r e)

  pub step_or : s ≡ or_word → (list : Tree) (lists none : List Tree)
      → list ≡ all_of (ands ++ op ∷ []) → lists ≡ ors ++ list ∷ [] → none ≡ []
      → (r : List Symbol) (e : Tree)
      → After (goal_from Ended gs) ors ands op (s ∷ r) e ↔ Want (goal_from Ended gs) lists none r e
  step_or s_is list lists none all_is is none_is r e =
      rw (s_is, is, all_is, none_is)
      (after_or (goal_from Ended gs) (outer_closes gs) ors ands op r e)

  pub step_closing : s ≡ closing → (fewer : List Group) (g : Group) (whole : Tree)
      → gs ≡ fewer ++ g ∷ [] → whole ≡ any_of (ors ++ all_of (ands ++ op ∷ []) ∷ [])
      → (r : List Symbol) (e : Tree)
      → After (goal_from Ended gs) ors ands op (s ∷ r) e
      ↔ After (goal_from Ended fewer) g.lists.items g.operands.items whole r e
  step_closing s_is fewer g whole is whole_is r e =
      rw (s_is, is, whole_is, from_push Ended fewer g)
      (after_closing (goal_from Ended fewer) g.lists.items g.operands.items ors ands op r e)

  pub step_closing_none : s ≡ closing → gs ≡ [] → (r : List Symbol) (e : Tree)
      → After (goal_from Ended gs) ors ands op (s ∷ r) e → ⊥
  step_closing_none s_is is r e h = after_closing_none ors ands op r e (rw (s_is, is) at h)

  pub step_other : s ≢ and_word → s ≢ or_word → s ≢ closing → (r : List Symbol) (e : Tree)
      → After (goal_from Ended gs) ors ands op (s ∷ r) e → ⊥
  step_other no_and no_or no_closing r e h =
      after_other (goal_from Ended gs) (outer_closes gs) ors ands op s r e no_and no_or no_closing h

module _ (gs : List Group) (ors ands : List Tree) (t : Term) (s : Symbol) where
  pub word_with : s ≡ with_word → (r : List Symbol) (e : Tree)
      → AfterWord (goal_from Ended gs) ors ands t (s ∷ r) e
      ↔ WantException (goal_from Ended gs) ors ands t r e
  word_with s_is r e = (
    (λ h. elim h [
      | inl k ↦ absurd (step_other gs ors ands (one t) s (λ n. cc) (λ n. cc) (λ n. cc) r e k)
      | inr (r', is, w) ↦ let same : r' ≡ r = cc in
          subst (λ q. WantException (goal_from Ended gs) ors ands t q e) same w
    ]),
    (λ w. inr (r, ap (λ x. x ∷ r) s_is, w)),
  )

  pub word_not_with : s ≢ with_word → (r : List Symbol) (e : Tree)
      → AfterWord (goal_from Ended gs) ors ands t (s ∷ r) e
      ↔ After (goal_from Ended gs) ors ands (one t) (s ∷ r) e
  word_not_with not_with r e = (
    (λ h. elim h [ inl k ↦ k | inr (r', is, w) ↦ absurd (not_with (cc)) ]),
    (λ k. inl k),
  )

  pub exception_word : (u : Term) (x : List ℕ) → s ≡ word u (Some x) → (new : Term)
      → new ≡ with_exception t x → (r : List Symbol) (e : Tree)
      → WantException (goal_from Ended gs) ors ands t (s ∷ r) e
      ↔ After (goal_from Ended gs) ors ands (one new) r e
  exception_word u x s_is new new_is r e =
      rw (s_is, new_is) (
        (λ (v, y, r', is, k). let same : r' ≡ r = cc in let same_word : y ≡ x = cc in
            rw (← same, ← same_word) k),
        (λ k. (u, x, r, refl, k)),
      )

  pub exception_other : ((u : Term) (x : List ℕ) → s ≡ word u (Some x) → ⊥)
      → (r : List Symbol) (e : Tree) → WantException (goal_from Ended gs) ors ands t (s ∷ r) e → ⊥
  exception_other none r e (u, x, r', is, k) = none u x (cc)

module _ (gs : List Group) (g : Group) (s : Symbol) where
  pub operand_opening : s ≡ opening → (more : List Group) (ors ands : List Tree)
      → more ≡ gs ++ g ∷ [] → ors ≡ [] → ands ≡ [] → (r : List Symbol) (e : Tree)
      → Want (goal_from Ended gs) g.lists.items g.operands.items (s ∷ r) e
      ↔ Want (goal_from Ended more) ors ands r e
  operand_opening s_is more ors ands is no_ors no_ands r e =
      let whole = Want (goal_from Ended gs) g.lists.items g.operands.items (s ∷ r) e in
      subst (λ x. whole ↔ Want x ors ands r e)
      (sym (ap (goal_from Ended) is ∙ from_push Ended gs g))
      (subst (λ x. whole ↔ Want (Closed (goal_from Ended gs) g.lists.items g.operands.items) x ands
      r e) (sym no_ors)
      (subst (λ x. whole ↔ Want (Closed (goal_from Ended gs) g.lists.items g.operands.items) [] x r
      e) (sym no_ands)
      (rw s_is (want_opening (goal_from Ended gs) (outer_closes gs) g.lists.items g.operands.items r
      e))))

  pub operand_word : (t : Term) (o : Option (List ℕ)) → s ≡ word t o → (r : List Symbol) (e : Tree)
      → Want (goal_from Ended gs) g.lists.items g.operands.items (s ∷ r) e
      ↔ AfterWord (goal_from Ended gs) g.lists.items g.operands.items t r e
  operand_word t o s_is r e =
      rw s_is (want_word (goal_from Ended gs) (outer_closes gs) g.lists.items g.operands.items t o r
      e)

  pub operand_other : s ≢ opening → ((t : Term) (o : Option (List ℕ)) → s ≢ word t o)
      → (r : List Symbol) (e : Tree)
      → Want (goal_from Ended gs) g.lists.items g.operands.items (s ∷ r) e → ⊥
  operand_other no_opening no_word r e h =
      want_other (goal_from Ended gs) (outer_closes gs) g.lists.items g.operands.items (s ∷ r) e h
      (λ t is. no_opening (cc)) (λ t o q is. no_word t o (cc))

-- ---- at the end

abbrev Completes : Goal → ℕ → Type 0
Completes K n = (x : Tree) → (e : Tree) × K x (closings n) e

from_completes : (K : Goal) (n : ℕ) → Completes K n → (gs : List Group)
    → (m : ℕ) × Completes (goal_from K gs) m
from_completes K n ends [] = (n, ends)
from_completes K n ends (g ∷ gs) =
    from_completes (Closed K g.lists.items g.operands.items) (suc n)
    (λ x. let k = ends (any_of (g.lists.items ++ all_of (g.operands.items ++ x ∷ []) ∷ [])) in
    (k.0, (closings n, refl, inl (inl k.1))))
    gs

-- closing parentheses complete what ends with an operand
pub after_completes : (gs : List Group) (ors ands : List Tree) (op : Tree)
    → (n : ℕ) × (e : Tree) × After (goal_from Ended gs) ors ands op (closings n) e
after_completes gs ors ands op =
    let c = from_completes Ended 0 (λ x. (x, (refl, refl))) gs in
    let k = c.1 (any_of (ors ++ all_of (ands ++ op ∷ []) ∷ [])) in
    (c.0, k.0, inl (inl k.1))

-- closing parentheses are no operand
pub want_not_closings : (gs : List Group) (g : Group) (n : ℕ) (e : Tree)
    → Want (goal_from Ended gs) g.lists.items g.operands.items (closings n) e → ⊥
want_not_closings gs g zero e h =
    want_other (goal_from Ended gs) (outer_closes gs) g.lists.items g.operands.items [] e h
    (λ t is. cc) (λ t o q is. cc)
want_not_closings gs g (suc n) e h = operand_other gs g closing (λ is. cc) (λ t o is. cc)
    (closings n) e h

pub exception_not_closings : (gs : List Group) (ors ands : List Tree) (t : Term) (n : ℕ) (e : Tree)
    → WantException (goal_from Ended gs) ors ands t (closings n) e → ⊥
exception_not_closings gs ors ands t zero e (u, x, r', is, k) = cc
exception_not_closings gs ors ands t (suc n) e (u, x, r', is, k) = cc

-- nothing is open
pub end_closed : (gs : List Group) (ors ands : List Tree) (op whole : Tree) → gs ≡ []
    → whole ≡ any_of (ors ++ all_of (ands ++ op ∷ []) ∷ []) → (e : Tree)
    → After (goal_from Ended gs) ors ands op [] e ↔ (whole ≡ e)
end_closed gs ors ands op whole none whole_is e = rw (none, whole_is) (after_end ors ands op e)

-- something is open
pub end_open : (gs fewer : List Group) (g : Group) → gs ≡ fewer ++ g ∷ []
    → (ors ands : List Tree) (op e : Tree) → After (goal_from Ended gs) ors ands op [] e → ⊥
end_open gs fewer g is ors ands op e h =
    after_end_open (goal_from Ended fewer) g.lists.items g.operands.items ors ands op e
    (subst (λ x. After x ors ands op [] e) (ap (goal_from Ended) is ∙ from_push Ended fewer g) h)

pub word_end : (K : Goal) (ors ands : List Tree) (t : Term) (e : Tree)
    → AfterWord K ors ands t [] e ↔ After K ors ands (one t) [] e
word_end K ors ands t e = (
  (λ h. elim h [ inl k ↦ k | inr (r', is, w) ↦ absurd (cc) ]),
  (λ k. inl k),
)

pub word_closings : (K : Goal) (ors ands : List Tree) (t : Term) (n : ℕ) (e : Tree)
    → AfterWord K ors ands t (closings n) e → After K ors ands (one t) (closings n) e
word_closings K ors ands t n e (inl k) = k
word_closings K ors ands t zero e (inr (r', is, w)) = absurd (cc)
word_closings K ors ands t (suc n) e (inr (r', is, w)) = absurd (cc)
