-- Each list of symbols begins one that spells a tree, or begins none: what may follow a place is
-- examined symbol by symbol.
use Rattle.std.proofs.Common.{◌≡◌, inl, inr, ℕ, zero, suc, ◌≤◌, List, [], ◌∷◌, ◌++◌, length, Some}
use Rattle.std.proofs.Common.{subst, ap, refl, arith}
use Rattle.desk_expr.specs.declared.term.Term.{Term}
use Rattle.desk_expr.specs.Tree.{Tree, one}
use Rattle.desk_expr.specs.Words.{with_exception}
use Rattle.desk_expr.specs.Grammar.{Symbol, opening, closing, and_word, or_word, with_word, word}
use Rattle.desk_expr.specs.Grammar.{all_of, any_of, SpellsTree}
use Rattle.desk_expr.specs.Rest.{Goal, Want, After, AfterWord, WantException, Closed, Ended}
use Rattle.desk_expr.specs.Spelling.{Begins}
use Rattle.desk_expr.proofs.Residual.{OnlyCloses, Lives, ended_closes, ended_lives, closed_closes}
use Rattle.desk_expr.proofs.Residual.{closed_lives, after_lives, want_lives, word_lives}
use Rattle.desk_expr.proofs.Residual.{exception_lives, after_and, after_or, want_opening, want_word}
use Rattle.desk_expr.proofs.Residual.{want_other}
use Rattle.desk_expr.proofs.Steps.{start_rest}
use Rattle.desk_alts.proofs.Decide.{Decided, SomeOrNone, some_by}
use Rattle.desk_alts.proofs.Trees.{after_all, after_exception, after_group}

-- some list continues these symbols to one that spells a tree, or none does
abbrev Begun : (List Symbol → Tree → Type 0) → List Symbol → Type 0
Begun P r = SomeOrNone {A = List Symbol × Tree} (λ q. P (r ++ q.0) q.1)

-- this is known after a whole list, for at most so many symbols
abbrev Known : Goal → ℕ → Type 0
Known K n = (x : Tree) (r : List Symbol) → length r ≤ n → Begun (K x) r

fewer : (K : Goal) (n : ℕ) → Known K (suc n) → Known K n
fewer K n known x r few = known x r (omega (arith, few))

-- after a word comes what follows an operand, or WITH and an exception
behind_word : (K : Goal) → Lives K → (ors ands : List Tree) (t : Term) (r : List Symbol)
    → Begun (After K ors ands (one t)) r
    → ((q : List Symbol) → r ≡ with_word ∷ q → Begun (WantException K ors ands t) q)
    → Begun (AfterWord K ors ands t) r
behind_word K lives ors ands t [] begun except = let a = word_lives K lives ors ands t in
    inl ((a.0, a.1), a.2)
behind_word K lives ors ands t (s ∷ r) (inl (q, h)) except = inl (q, inl h)
behind_word K lives ors ands t (with_word ∷ r) (inr none) except = either (except r refl)
  where
    either : Begun (WantException K ors ands t) r → Begun (AfterWord K ors ands t) (with_word ∷ r)
    either (inl (q, h)) = inl (q, inr (r ++ q.0, refl, h))
    either (inr neither) = inr (λ q h. elim h [
      | inl k ↦ none q k
      | inr (p, is, k) ↦ let same : p ≡ r ++ q.0 = cc in
          neither q (subst (λ s. WantException K ors ands t s q.1) same k)
    ])
behind_word K lives ors ands t (s
    ∷ r) (inr none) except = inr (λ q h. elim h [ inl k ↦ none q k | inr (p, is, k) ↦ absurd (cc) ])

mutual
  seek_after : (n : ℕ) (r : List Symbol) → length r ≤ n → (K : Goal) → OnlyCloses K → Lives K
      → Known K n → (ors ands : List Tree) (op : Tree) → Begun (After K ors ands op) r
  seek_after n [] few K only lives known ors ands op = let a = after_lives K lives ors ands op in
      inl ((a.0, a.1), a.2)
  seek_after zero (s ∷ r) few K only lives known ors ands op = absurd (omega arith)
  seek_after (suc n) (and_word ∷ r) few K only lives known ors ands op =
      some_by {A = List Symbol × Tree} (λ q. After K ors ands op (and_word ∷ (r ++ q.0)) q.1)
      (λ q. Want K ors (ands ++ op ∷ []) (r ++ q.0) q.1)
      (λ q. after_and K only ors ands op (r ++ q.0) q.1)
      (seek_want n r (omega arith) K only lives (fewer K n known) ors (ands ++ op ∷ []))
  seek_after (suc n) (or_word ∷ r) few K only lives known ors ands op =
      some_by {A = List Symbol × Tree} (λ q. After K ors ands op (or_word ∷ (r ++ q.0)) q.1)
      (λ q. Want K (ors ++ all_of (ands ++ op ∷ []) ∷ []) [] (r ++ q.0) q.1)
      (λ q. after_or K only ors ands op (r ++ q.0) q.1)
      (seek_want n r (omega arith) K only lives (fewer K n known)
      (ors ++ all_of (ands ++ op ∷ []) ∷ []) [])
  seek_after (suc n) (s ∷ r) few K only lives known ors ands op =
      some_by {A = List Symbol × Tree} (λ q. After K ors ands op (s ∷ (r ++ q.0)) q.1)
      (λ q. K (any_of (ors ++ all_of (ands ++ op ∷ []) ∷ [])) (s ∷ (r ++ q.0)) q.1)
      (λ q. after_all K ors ands op (s ∷ (r ++ q.0)) (λ p is. cc) (λ p is. cc) q.1)
      (known (any_of (ors ++ all_of (ands ++ op ∷ []) ∷ [])) (s ∷ r) few)

  seek_want : (n : ℕ) (r : List Symbol) → length r ≤ n → (K : Goal) → OnlyCloses K → Lives K
      → Known K n → (ors ands : List Tree) → Begun (Want K ors ands) r
  seek_want n [] few K only lives known ors ands = let a = want_lives K lives ors ands in
      inl ((a.0, a.1), a.2)
  seek_want zero (s ∷ r) few K only lives known ors ands = absurd (omega arith)
  seek_want (suc n) (opening ∷ r) few K only lives known ors ands =
      some_by {A = List Symbol × Tree} (λ q. Want K ors ands (opening ∷ (r ++ q.0)) q.1)
      (λ q. Want (Closed K ors ands) [] [] (r ++ q.0) q.1)
      (λ q. want_opening K only ors ands (r ++ q.0) q.1)
      (seek_want n r (omega arith) (Closed K ors ands) (closed_closes K ors ands)
      (closed_lives K lives ors ands)
      (λ x q short. seek_closed n q short K only lives (fewer K n known) ors ands x) [] [])
  seek_want (suc n) (word t o ∷ r) few K only lives known ors ands =
      some_by {A = List Symbol × Tree} (λ q. Want K ors ands (word t o ∷ (r ++ q.0)) q.1)
      (λ q. AfterWord K ors ands t (r ++ q.0) q.1)
      (λ q. want_word K only ors ands t o (r ++ q.0) q.1)
      (behind_word K lives ors ands t r
      (seek_after n r (omega arith) K only lives (fewer K n known) ors ands (one t))
      (λ q is. seek_exception n q (let shorter = ap length is in omega arith) K only lives
      (fewer K n known) ors ands t))
  seek_want (suc n) (s ∷ r) few K only lives known ors ands = inr (λ q h. want_other K only ors ands
      (s ∷ (r ++ q.0)) q.1 h (λ p is. cc) (λ t o p is. cc))

  seek_exception : (n : ℕ) (r : List Symbol) → length r ≤ n → (K : Goal) → OnlyCloses K → Lives K
      → Known K n → (ors ands : List Tree) (t : Term) → Begun (WantException K ors ands t) r
  seek_exception n [] few K only lives known ors ands t = let a =
      exception_lives K lives ors ands t in inl ((a.0, a.1), a.2)
  seek_exception zero (s ∷ r) few K only lives known ors ands t = absurd (omega arith)
  seek_exception (suc n) (word u (Some x) ∷ r) few K only lives known ors ands t =
      some_by {A = List Symbol × Tree}
      (λ q. WantException K ors ands t (word u (Some x) ∷ (r ++ q.0)) q.1)
      (λ q. After K ors ands (one (with_exception t x)) (r ++ q.0) q.1)
      (λ q. after_exception K ors ands t u x (r ++ q.0) q.1)
      (seek_after n r (omega arith) K only lives (fewer K n known) ors ands
      (one (with_exception t x)))
  seek_exception (suc n) (s ∷ r) few K only lives known ors ands t = inr (λ q (u, x, p, is, k).
      absurd (cc))

  seek_closed : (n : ℕ) (r : List Symbol) → length r ≤ n → (K : Goal) → OnlyCloses K → Lives K
      → Known K n → (ors ands : List Tree) (op : Tree) → Begun (Closed K ors ands op) r
  seek_closed n [] few K only lives known ors ands op = let a = closed_lives K lives ors ands op in
      inl ((a.0, a.1), a.2)
  seek_closed zero (s ∷ r) few K only lives known ors ands op = absurd (omega arith)
  seek_closed (suc n) (closing ∷ r) few K only lives known ors ands op =
      some_by {A = List Symbol × Tree} (λ q. Closed K ors ands op (closing ∷ (r ++ q.0)) q.1)
      (λ q. After K ors ands op (r ++ q.0) q.1)
      (λ q. after_group K ors ands op (r ++ q.0) q.1)
      (seek_after n r (omega arith) K only lives (fewer K n known) ors ands op)
  seek_closed (suc n) (s ∷ r) few K only lives known ors ands op = inr (λ q (p, is, k). absurd (cc))

seek_ended : (x : Tree) (r : List Symbol) → Begun (Ended x) r
seek_ended x [] = inl (([], x), (refl, refl))
seek_ended x (s ∷ r) = inr (λ q h. let none = h.0 in absurd (cc))

begun : (r : List Symbol) → Begun SpellsTree r
begun r =
    some_by {A = List Symbol × Tree} (λ q. SpellsTree (r ++ q.0) q.1)
    (λ q. Want Ended [] [] (r ++ q.0) q.1) (λ q. start_rest [] [] [] refl refl refl (r ++ q.0) q.1)
    (seek_want (length r) r (omega arith) Ended ended_closes ended_lives (λ x q few. seek_ended x q)
    [] [])

pub begins_or_not : (r : List Symbol) → Decided (Begins SpellsTree r)
begins_or_not r = elim (begun r)
    [ inl a ↦ inl (a.0.0, a.0.1, a.1) | inr none ↦ inr (λ b. none (b.0, b.1) b.2) ]

pub nothing_begins : Begins SpellsTree []
nothing_begins = let a = want_lives Ended ended_lives [] [] in
    (a.0, a.1, (start_rest [] [] [] refl refl refl a.0 a.1).1 a.2)
