-- Each list of symbols spells a tree or none: what may follow a place is examined symbol by symbol.
use Rattle.std.proofs.Common.{◌≡◌, ◌↔◌, inl, inr, ℕ, zero, suc, ◌≤◌, List, [], ◌∷◌, ◌++◌, length}
use Rattle.std.proofs.Common.{Some, subst, ap, refl, arith}
use Rattle.std.specs.Prelude.{◌≢◌}
use Rattle.desk_expr.specs.declared.term.Term.{Term}
use Rattle.desk_expr.specs.Tree.{Tree, one}
use Rattle.desk_expr.specs.Words.{with_exception}
use Rattle.desk_expr.specs.Grammar.{Symbol, opening, closing, and_word, or_word, with_word, word}
use Rattle.desk_expr.specs.Grammar.{all_of, any_of, SpellsTree}
use Rattle.desk_expr.specs.Rest.{Goal, Want, After, AfterWord, WantException, Closed, Ended}
use Rattle.desk_expr.proofs.Residual.{OnlyCloses, ended_closes, closed_closes, after_and, after_or}
use Rattle.desk_expr.proofs.Residual.{want_opening, want_word, want_other}
use Rattle.desk_expr.proofs.Steps.{start_rest}
use Rattle.desk_alts.proofs.Decide.{SomeOrNone, some_by}

-- after a whole list, at most so many symbols are known to spell some tree, or none
abbrev Known : Goal → ℕ → Type 0
Known K n = (x : Tree) (r : List Symbol) → length r ≤ n → SomeOrNone (K x r)

fewer : (K : Goal) (n : ℕ) → Known K (suc n) → Known K n
fewer K n known x r few = known x r (omega (arith, few))

-- if neither AND nor OR follows an operand, the whole list has ended
pub after_all : (K : Goal) (ors ands : List Tree) (op : Tree) (r : List Symbol)
    → ((q : List Symbol) → r ≢ and_word ∷ q) → ((q : List Symbol) → r ≢ or_word ∷ q)
    → (e : Tree) → After K ors ands op r e ↔ K (any_of (ors ++ all_of (ands ++ op ∷ []) ∷ [])) r e
after_all K ors ands op r no_and no_or e = (
  (λ h. elim h [
    | inl (inl k) ↦ k
    | inl (inr (us, gs, p, is, m, k)) ↦ absurd (no_or us is)
    | inr (us, is, w) ↦ absurd (no_and us is)
  ]),
  (λ k. inl (inl k)),
)

pub after_exception : (K : Goal) (ors ands : List Tree) (t u : Term) (x : List ℕ) (r : List Symbol)
    (e : Tree)
    → WantException K ors ands t (word u (Some x) ∷ r) e
    ↔ After K ors ands (one (with_exception t x)) r e
after_exception K ors ands t u x r e = (
  (λ (v, y, p, is, k).
      let same : p ≡ r = cc in
      let same_id : y ≡ x = cc in
      subst (λ s. After K ors ands (one (with_exception t x)) s e) same
      (subst (λ z. After K ors ands (one (with_exception t z)) p e) same_id k)),
  (λ k. (u, x, r, refl, k)),
)

pub after_group : (K : Goal) (ors ands : List Tree) (op : Tree) (r : List Symbol) (e : Tree)
    → Closed K ors ands op (closing ∷ r) e ↔ After K ors ands op r e
after_group K ors ands op r e = (
  (λ (p, is, k). let same : p ≡ r = cc in subst (λ s. After K ors ands op s e) same k),
  (λ k. (r, refl, k)),
)

-- after a word comes what follows an operand, or WITH and an exception
behind_word : (K : Goal) (ors ands : List Tree) (t : Term) (r : List Symbol)
    → SomeOrNone (After K ors ands (one t) r)
    → ((q : List Symbol) → r ≡ with_word ∷ q → SomeOrNone (WantException K ors ands t q))
    → SomeOrNone (AfterWord K ors ands t r)
behind_word K ors ands t r (inl (e, h)) except = inl (e, inl h)
behind_word K ors ands t (with_word ∷ q) (inr none) except = either (except q refl)
  where
    either : SomeOrNone (WantException K ors ands t q)
        → SomeOrNone (AfterWord K ors ands t (with_word ∷ q))
    either (inl (e, h)) = inl (e, inr (q, refl, h))
    either (inr neither) = inr (λ e h. elim h [
      | inl k ↦ none e k
      | inr (p, is, k) ↦ let same : p ≡ q = cc in
          neither e (subst (λ s. WantException K ors ands t s e) same k)
    ])
behind_word K ors ands t r (inr none) except = inr (λ e h. elim h
    [ inl k ↦ none e k | inr (p, is, k) ↦ absurd (cc) ])

mutual
  seek_after : (n : ℕ) (r : List Symbol) → length r ≤ n → (K : Goal) → OnlyCloses K → Known K n
      → (ors ands : List Tree) (op : Tree) → SomeOrNone (After K ors ands op r)
  seek_after n [] few K only known ors ands op =
      some_by (After K ors ands op []) _ (after_all K ors ands op [] (λ q is. cc) (λ q is. cc))
      (known (any_of (ors ++ all_of (ands ++ op ∷ []) ∷ [])) [] few)
  seek_after zero (s ∷ r) few K only known ors ands op = absurd (omega arith)
  seek_after (suc n) (and_word ∷ r) few K only known ors ands op =
      some_by (After K ors ands op (and_word ∷ r)) _ (after_and K only ors ands op r)
      (seek_want n r (omega arith) K only (fewer K n known) ors (ands ++ op ∷ []))
  seek_after (suc n) (or_word ∷ r) few K only known ors ands op =
      some_by (After K ors ands op (or_word ∷ r)) _ (after_or K only ors ands op r)
      (seek_want n r (omega arith) K only (fewer K n known) (ors ++ all_of (ands ++ op ∷ []) ∷ [])
      [])
  seek_after (suc n) (s ∷ r) few K only known ors ands op =
      some_by (After K ors ands op (s ∷ r)) _
      (after_all K ors ands op (s ∷ r) (λ q is. cc) (λ q is. cc))
      (known (any_of (ors ++ all_of (ands ++ op ∷ []) ∷ [])) (s ∷ r) few)

  seek_want : (n : ℕ) (r : List Symbol) → length r ≤ n → (K : Goal) → OnlyCloses K → Known K n
      → (ors ands : List Tree) → SomeOrNone (Want K ors ands r)
  seek_want n [] few K only known ors ands = inr (λ e h. want_other K only ors ands [] e h
      (λ q is. cc) (λ t o q is. cc))
  seek_want zero (s ∷ r) few K only known ors ands = absurd (omega arith)
  seek_want (suc n) (opening ∷ r) few K only known ors ands =
      some_by (Want K ors ands (opening ∷ r)) _ (want_opening K only ors ands r)
      (seek_want n r (omega arith) (Closed K ors ands) (closed_closes K ors ands)
      (λ x q short. seek_closed n q short K only (fewer K n known) ors ands x) [] [])
  seek_want (suc n) (word t o ∷ r) few K only known ors ands =
      some_by (Want K ors ands (word t o ∷ r)) _ (want_word K only ors ands t o r)
      (behind_word K ors ands t r
      (seek_after n r (omega arith) K only (fewer K n known) ors ands (one t))
      (λ q is. seek_exception n q (let shorter = ap length is in omega arith) K only
      (fewer K n known) ors ands t))
  seek_want (suc n) (s ∷ r) few K only known ors ands = inr (λ e h. want_other K only ors ands
      (s ∷ r) e h (λ q is. cc) (λ t o q is. cc))

  seek_exception : (n : ℕ) (r : List Symbol) → length r ≤ n → (K : Goal) → OnlyCloses K → Known K n
      → (ors ands : List Tree) (t : Term) → SomeOrNone (WantException K ors ands t r)
  seek_exception (suc n) (word u (Some x) ∷ r) few K only known ors ands t =
      some_by (WantException K ors ands t (word u (Some x) ∷ r)) _
      (after_exception K ors ands t u x r)
      (seek_after n r (omega arith) K only (fewer K n known) ors ands (one (with_exception t x)))
  seek_exception zero (s ∷ r) few K only known ors ands t = absurd (omega arith)
  seek_exception n r few K only known ors ands t = inr (λ e (u, x, q, is, k). absurd (cc))

  seek_closed : (n : ℕ) (r : List Symbol) → length r ≤ n → (K : Goal) → OnlyCloses K → Known K n
      → (ors ands : List Tree) (op : Tree) → SomeOrNone (Closed K ors ands op r)
  seek_closed (suc n) (closing ∷ r) few K only known ors ands op =
      some_by (Closed K ors ands op (closing ∷ r)) _ (after_group K ors ands op r)
      (seek_after n r (omega arith) K only (fewer K n known) ors ands op)
  seek_closed zero (s ∷ r) few K only known ors ands op = absurd (omega arith)
  seek_closed n r few K only known ors ands op = inr (λ e (q, is, k). absurd (cc))

seek_ended : (x : Tree) (r : List Symbol) → SomeOrNone (Ended x r)
seek_ended x [] = inl (x, (refl, refl))
seek_ended x (s ∷ r) = inr (λ e h. let none = h.0 in absurd (cc))

pub tree_or_none : (r : List Symbol) → SomeOrNone (SpellsTree r)
tree_or_none r =
    some_by (SpellsTree r) _ (start_rest [] [] [] refl refl refl r)
    (seek_want (length r) r (omega arith) Ended ended_closes (λ x q few. seek_ended x q) [] [])
