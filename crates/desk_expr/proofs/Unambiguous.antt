-- A list of symbols spells at most one tree.
use Rattle.std.proofs.Common.{◌≡◌, ◌∙◌, inl, inr, ℕ, zero, suc, ◌≤◌, List, [], ◌∷◌, ◌++◌, length}
use Rattle.std.proofs.Common.{sym, subst, ap, refl, arith}
use Rattle.desk_expr.specs.declared.term.Term.{Term}
use Rattle.desk_expr.specs.Tree.{Tree, one}
use Rattle.desk_expr.specs.Words.{with_exception}
use Rattle.desk_expr.specs.Grammar.{Symbol, opening, closing, and_word, or_word, with_word, word}
use Rattle.desk_expr.specs.Grammar.{bad, all_of, any_of, SpellsTree}
use Rattle.desk_expr.specs.Rest.{Goal, Want, After, AfterWord, WantException, Closed, Ended}
use Rattle.desk_expr.proofs.Residual.{OnlyCloses, ended_closes, closed_closes, after_and, after_or}
use Rattle.desk_expr.proofs.Residual.{after_other, want_opening, want_word, want_other}
use Rattle.desk_expr.proofs.Residual.{after_closing, after_closing_none, after_end, after_end_open}
use Rattle.desk_expr.proofs.Residual.{run_want}
use Rattle.desk_expr.proofs.Runs.{whole_run}

-- the open groups, the innermost first: the AND lists and operands before each
abbrev Stack : Type 0
Stack = List (List Tree × List Tree)

abbrev follow : Stack → Goal
follow [] = Ended
follow (g ∷ gs) = Closed (follow gs) g.0 g.1

follow_closes : (gs : Stack) → OnlyCloses (follow gs)
follow_closes [] = ended_closes
follow_closes (g ∷ gs) = closed_closes (follow gs) g.0 g.1

-- what follows a word gives only one tree, if what follows an operand and an exception does
one_after_word : (K : Goal) → OnlyCloses K → (ors ands : List Tree) (t : Term) (r : List Symbol)
    → ((e f : Tree) → After K ors ands (one t) r e → After K ors ands (one t) r f → e ≡ f)
    → ((q : List Symbol) → r ≡ with_word ∷ q → (e f : Tree) → WantException K ors ands t q e
    → WantException K ors ands t q f → e ≡ f)
    → (e f : Tree) → AfterWord K ors ands t r e → AfterWord K ors ands t r f → e ≡ f
one_after_word K only ors ands t r after except e f (inl h) (inl k) = after e f h k
one_after_word K only ors ands t r after except e f (inl h) (inr (q, is, k)) =
    absurd (after_other K only ors ands (one t) with_word q e (λ n. cc) (λ n. cc) (λ n. cc)
    (subst (λ s. After K ors ands (one t) s e) is h))
one_after_word K only ors ands t r after except e f (inr (q, is, h)) (inl k) =
    absurd (after_other K only ors ands (one t) with_word q f (λ n. cc) (λ n. cc) (λ n. cc)
    (subst (λ s. After K ors ands (one t) s f) is k))
one_after_word K only ors ands t r after except e f (inr (q, is, h)) (inr (p, is', k)) =
    let same : p ≡ q = cc in except q is e f h (subst (λ s. WantException K ors ands t s f) same k)

mutual
  one_after : (n : ℕ) (r : List Symbol) → length r ≤ n
      → (gs : Stack) (ors ands : List Tree) (op e f : Tree) → After (follow gs) ors ands op r e
      → After (follow gs) ors ands op r f → e ≡ f
  one_after n [] few [] ors ands op e f h k = sym ((after_end ors ands op e).0 h)
      ∙ (after_end ors ands op f).0 k
  one_after n [] few (g ∷ gs) ors ands op e f h k = absurd (after_end_open (follow gs) g.0 g.1 ors
      ands op e h)
  one_after zero (s ∷ r) few gs ors ands op e f h k = absurd (omega arith)
  one_after (suc n) (and_word ∷ r) few gs ors ands op e f h k =
      one_want n r (omega arith) gs ors (ands ++ op ∷ []) e f
      ((after_and (follow gs) (follow_closes gs) ors ands op r e).0 h)
      ((after_and (follow gs) (follow_closes gs) ors ands op r f).0 k)
  one_after (suc n) (or_word ∷ r) few gs ors ands op e f h k =
      one_want n r (omega arith) gs (ors ++ all_of (ands ++ op ∷ []) ∷ []) [] e f
      ((after_or (follow gs) (follow_closes gs) ors ands op r e).0 h)
      ((after_or (follow gs) (follow_closes gs) ors ands op r f).0 k)
  one_after (suc n) (closing ∷ r) few [] ors ands op e f h k = absurd (after_closing_none ors ands
      op r e h)
  one_after (suc n) (closing ∷ r) few (g ∷ gs) ors ands op e f h k =
      one_after n r (omega arith) gs g.0 g.1 (any_of (ors ++ all_of (ands ++ op ∷ []) ∷ [])) e f
      ((after_closing (follow gs) g.0 g.1 ors ands op r e).0 h)
      ((after_closing (follow gs) g.0 g.1 ors ands op r f).0 k)
  one_after (suc n) (opening ∷ r) few gs ors ands op e f h k =
      absurd (after_other (follow gs) (follow_closes gs) ors ands op opening r e (λ n. cc) (λ n. cc)
      (λ n. cc) h)
  one_after (suc n) (with_word ∷ r) few gs ors ands op e f h k =
      absurd (after_other (follow gs) (follow_closes gs) ors ands op with_word r e (λ n. cc)
      (λ n. cc) (λ n. cc) h)
  one_after (suc n) (word t o ∷ r) few gs ors ands op e f h k =
      absurd (after_other (follow gs) (follow_closes gs) ors ands op (word t o) r e (λ n. cc)
      (λ n. cc) (λ n. cc) h)
  one_after (suc n) (bad ∷ r) few gs ors ands op e f h k =
      absurd (after_other (follow gs) (follow_closes gs) ors ands op bad r e (λ n. cc) (λ n. cc)
      (λ n. cc) h)

  one_want : (n : ℕ) (r : List Symbol) → length r ≤ n
      → (gs : Stack) (ors ands : List Tree) (e f : Tree) → Want (follow gs) ors ands r e
      → Want (follow gs) ors ands r f → e ≡ f
  one_want n [] few gs ors ands e f h k =
      absurd (want_other (follow gs) (follow_closes gs) ors ands [] e h (λ t is. cc)
      (λ t o q is. cc))
  one_want zero (s ∷ r) few gs ors ands e f h k = absurd (omega arith)
  one_want (suc n) (opening ∷ r) few gs ors ands e f h k =
      one_want n r (omega arith) ((ors, ands) ∷ gs) [] [] e f
      ((want_opening (follow gs) (follow_closes gs) ors ands r e).0 h)
      ((want_opening (follow gs) (follow_closes gs) ors ands r f).0 k)
  one_want (suc n) (word t o ∷ r) few gs ors ands e f h k =
      one_after_word (follow gs) (follow_closes gs) ors ands t r
      (λ a b x y. one_after n r (omega arith) gs ors ands (one t) a b x y)
      (λ q is a b x y. one_exception n q (let shorter = ap length is in omega arith) gs ors ands t a
      b x y)
      e f ((want_word (follow gs) (follow_closes gs) ors ands t o r e).0 h)
      ((want_word (follow gs) (follow_closes gs) ors ands t o r f).0 k)
  one_want (suc n) (closing ∷ r) few gs ors ands e f h k =
      absurd (want_other (follow gs) (follow_closes gs) ors ands (closing ∷ r) e h (λ t is. cc)
      (λ t o q is. cc))
  one_want (suc n) (and_word ∷ r) few gs ors ands e f h k =
      absurd (want_other (follow gs) (follow_closes gs) ors ands (and_word ∷ r) e h (λ t is. cc)
      (λ t o q is. cc))
  one_want (suc n) (or_word ∷ r) few gs ors ands e f h k =
      absurd (want_other (follow gs) (follow_closes gs) ors ands (or_word ∷ r) e h (λ t is. cc)
      (λ t o q is. cc))
  one_want (suc n) (with_word ∷ r) few gs ors ands e f h k =
      absurd (want_other (follow gs) (follow_closes gs) ors ands (with_word ∷ r) e h (λ t is. cc)
      (λ t o q is. cc))
  one_want (suc n) (bad ∷ r) few gs ors ands e f h k =
      absurd (want_other (follow gs) (follow_closes gs) ors ands (bad ∷ r) e h (λ t is. cc)
      (λ t o q is. cc))

  one_exception : (n : ℕ) (r : List Symbol) → length r ≤ n
      → (gs : Stack) (ors ands : List Tree) (t : Term) (e f : Tree)
      → WantException (follow gs) ors ands t r e → WantException (follow gs) ors ands t r f → e ≡ f
  one_exception zero r few gs ors ands t e f (u, x, q, is, h) k = absurd (let size = ap length is in
      omega arith)
  one_exception (suc n) r few gs ors ands t e f (u, x, q, is, h) (v, y, p, is', k) =
      let same : p ≡ q = cc in
      let same_id : y ≡ x = cc in
      one_after n q (let size = ap length is in omega arith) gs ors ands (one (with_exception t x))
      e f h
      (subst (λ s. After (follow gs) ors ands (one (with_exception t x)) s f) same
      (subst (λ z. After (follow gs) ors ands (one (with_exception t z)) p f) same_id k))

spelled_want : (r : List Symbol) (e : Tree) → SpellsTree r e → Want Ended [] [] r e
spelled_want r e h = run_want Ended r h.0 [] e ((whole_run r h.0).0 h.1) (refl, h.2)

pub one_tree : (r : List Symbol) (e f : Tree) → SpellsTree r e → SpellsTree r f → e ≡ f
one_tree r e f h k = one_want (length r) r (omega arith) [] [] [] e f (spelled_want r e h)
    (spelled_want r f k)
