-- What may follow a place in an expression, after one more symbol, and at the end.
use Rattle.std.proofs.Common.{◌≡◌, ◌↔◌, ◌∙◌, inl, inr, ℕ, List, [], ◌∷◌, ◌++◌, sym, subst, ap, refl}
use Rattle.std.proofs.Common.{append_assoc, Option, Some, None, false}
use Rattle.std.specs.Prelude.{◌≢◌}
use Rattle.desk_expr.specs.declared.term.Term.{Term}
use Rattle.desk_expr.specs.Tree.{Tree, one}
use Rattle.desk_expr.specs.Words.{with_exception}
use Rattle.desk_expr.specs.Grammar.{Symbol, opening, closing, and_word, or_word, with_word, word, all_of, any_of}
use Rattle.desk_expr.specs.Rest.{Goal, Tail, Want, After, WantException, AfterWord, Closed, Ended}
use Rattle.desk_expr.specs.Rest.{OperandRun, bare_run, excepted_run, group_run, AndRun}
use Rattle.desk_expr.specs.Rest.{last_operand, next_operand, OrRun, last_list, next_list}

-- only a closing parenthesis may follow a whole list
abbrev pub OnlyCloses : Goal → Type 0
OnlyCloses K = (x : Tree) (s : Symbol) (r : List Symbol) (e : Tree) → K x (s ∷ r) e → s ≡ closing

pub ended_closes : OnlyCloses Ended
ended_closes x s r e h = absurd (let n = h.0 in cc)

pub closed_closes : (K : Goal) (ors ands : List Tree) → OnlyCloses (Closed K ors ands)
closed_closes K ors ands x s r e h = let n = h.1 in cc

snoc : (xs ys : List Tree) (y : Tree) → (xs ++ y ∷ []) ++ ys ≡ xs ++ y ∷ ys
snoc xs ys y = append_assoc xs (y ∷ []) ys

-- where an operand is wanted, there is one, and what may follow it
pub want_operand : (K : Goal) (ors ands : List Tree) (r : List Symbol) (e : Tree)
    → Want K ors ands r e → (op : Tree) × (r' : List Symbol) × OperandRun r op r'
    × After K ors ands op r' e
want_operand K ors ands r e (es, r1, last_operand ts op q h, tail) = (op, q, h, inl tail)
want_operand K ors ands r e (es, r1, next_operand ts us op fs q h k, tail) = (
  op,
  and_word ∷ us,
  h,
  inr (
    us,
    refl,
    (fs, q, k, subst (λ p. Tail K ors p q e) (sym (snoc ands fs op)) tail),
  ),
)

pub operand_want : (K : Goal) (ors ands : List Tree) (r : List Symbol) (e : Tree) (op : Tree)
    (r' : List Symbol) → OperandRun r op r' → After K ors ands op r' e → Want K ors ands r e
operand_want K ors ands r e op r' h (inl tail) = (op ∷ [], r', last_operand r op r' h, tail)
operand_want K ors ands r e op r' h (inr (us, is, (fs, q, k, tail))) = (
  op ∷ fs,
  q,
  next_operand r us op fs q (subst (λ s. OperandRun r op s) is h) k,
  subst (λ p. Tail K ors p q e) (snoc ands fs op) tail,
)

-- a whole OR list, and what is done with it
pub run_want : (K : Goal) (r : List Symbol) (es : List Tree) (r' : List Symbol) (e : Tree)
    → OrRun r es r' → K (any_of es) r' e → Want K [] [] r e
run_want K r es r' e (last_list ts fs q h) k = (fs, q, h, inl k)
run_want K r es r' e (next_list ts us fs gs q h m) k = (
  fs,
  or_word ∷ us,
  h,
  inr (us, gs, q, refl, m, k),
)

pub want_run : (K : Goal) (r : List Symbol) (e : Tree) → Want K [] [] r e
    → (es : List Tree) × (r' : List Symbol) × OrRun r es r' × K (any_of es) r' e
want_run K r e (fs, q, h, inl k) = (all_of fs ∷ [], q, last_list r fs q h, k)
want_run K r e (fs, q, h, inr (us, gs, p, is, m, k)) =
    (all_of fs ∷ gs, p, next_list r us fs gs p (subst (λ s. AndRun r fs s) is h) m, k)

-- ---- one more symbol

or_want : (K : Goal) (ors : List Tree) (done : Tree) (r : List Symbol) (gs : List Tree)
    (p : List Symbol) (e : Tree) → OrRun r gs p → K (any_of (ors ++ done ∷ gs)) p e
    → Want K (ors ++ done ∷ []) [] r e
or_want K ors done r gs p e (last_list ts fs q h) k =
    (fs, q, h, inl (subst (λ l. K (any_of l) q e) (sym (snoc ors (all_of fs ∷ []) done)) k))
or_want K ors done r gs p e (next_list ts us fs hs q h m) k = (
  fs,
  or_word ∷ us,
  h,
  inr (
    us,
    hs,
    q,
    refl,
    m,
    subst (λ l. K (any_of l) q e) (sym (snoc ors (all_of fs ∷ hs) done)) k,
  ),
)

want_or : (K : Goal) (ors parts : List Tree) (r : List Symbol) (e : Tree)
    → Want K (ors ++ all_of parts ∷ []) [] r e → Tail K ors parts (or_word ∷ r) e
want_or K ors parts r e (fs, q, h, inl k) =
    inr (
      r,
      all_of fs ∷ [],
      q,
      refl,
      last_list r fs q h,
      subst (λ l. K (any_of l) q e) (snoc ors (all_of fs ∷ []) (all_of parts)) k,
    )
want_or K ors parts r e (fs, q, h, inr (us, gs, p, is, m, k)) =
    inr (
      r,
      all_of fs ∷ gs,
      p,
      refl,
      next_list r us fs gs p (subst (λ s. AndRun r fs s) is h) m,
      subst (λ l. K (any_of l) p e) (snoc ors (all_of fs ∷ gs) (all_of parts)) k,
    )

module _ (K : Goal) (only : OnlyCloses K) (ors ands : List Tree) where
  -- AND after an operand
  pub after_and : (op : Tree) (r : List Symbol) (e : Tree)
      → After K ors ands op (and_word ∷ r) e ↔ Want K ors (ands ++ op ∷ []) r e
  after_and op r e = (
    (λ h. elim h [
      | inl (inl k) ↦ let n : and_word ≡ closing = only _ and_word r e k in absurd (cc)
      | inl (inr (us, gs, p, is, m, k)) ↦ absurd (cc)
      | inr (us, is, w) ↦ let same : us ≡ r = cc in
          subst (λ s. Want K ors (ands ++ op ∷ []) s e) same w
    ]),
    (λ w. inr (r, refl, w)),
  )

  -- OR after an operand
  pub after_or : (op : Tree) (r : List Symbol) (e : Tree)
      → After K ors ands op (or_word ∷ r) e ↔ Want K (ors ++ all_of (ands ++ op ∷ []) ∷ []) [] r e
  after_or op r e = (
    (λ h. elim h [
      | inl (inl k) ↦ let n : or_word ≡ closing = only _ or_word r e k in absurd (cc)
      | inl (inr (us, gs, p, is, m, k)) ↦ let same : us ≡ r = cc in
          or_want K ors (all_of (ands ++ op ∷ [])) r gs p e (subst (λ s. OrRun s gs p) same m) k
      | inr (us, is, w) ↦ absurd (cc)
    ]),
    (λ w. inl (want_or K ors (ands ++ op ∷ []) r e w)),
  )

  -- nothing else may follow an operand
  pub after_other : (op : Tree) (s : Symbol) (r : List Symbol) (e : Tree) → s ≢ and_word
      → s ≢ or_word → s ≢ closing → After K ors ands op (s ∷ r) e → ⊥
  after_other op s r e no_and no_or no_closing h =
      elim h [
        | inl (inl k) ↦ no_closing (only _ s r e k)
        | inl (inr (us, gs, p, is, m, k)) ↦ no_or (cc)
        | inr (us, is, w) ↦ no_and (cc)
      ]

  -- an operand is wanted at an opening parenthesis
  pub want_opening : (r : List Symbol) (e : Tree)
      → Want K ors ands (opening ∷ r) e ↔ Want (Closed K ors ands) [] [] r e
  want_opening r e = (
    (λ w. let at = want_operand K ors ands (opening ∷ r) e w in opens at.0 at.1 at.2 at.3),
    (λ w.
        let at = want_run (Closed K ors ands) r e w in
        operand_want K ors ands (opening ∷ r) e (any_of at.0) at.3.0
        (group_run r at.0 at.3.0 (subst (λ s. OrRun r at.0 s) at.3.1 at.2)) at.3.2),
  )
    where
      opens : (op : Tree) (r' : List Symbol) → OperandRun (opening ∷ r) op r'
          → After K ors ands op r' e → Want (Closed K ors ands) [] [] r e
      opens op r' (group_run ts es q h) k = run_want (Closed K ors ands) r es (closing ∷ q) e h
          (q, refl, k)

  -- an operand is wanted at a word
  pub want_word : (t : Term) (o : Option (List ℕ)) (r : List Symbol) (e : Tree)
      → Want K ors ands (word t o ∷ r) e ↔ AfterWord K ors ands t r e
  want_word t o r e = (
    (λ h. let at = want_operand K ors ands (word t o ∷ r) e h in reads t o r at.0 at.1 at.2 at.3),
    (λ h. elim h [
      | inl k ↦ operand_want K ors ands (word t o ∷ r) e (one t) r (bare_run t o r) k
      | inr (r', is, (u, x, q, is_word, k)) ↦
          operand_want K ors ands (word t o ∷ r) e (one (with_exception t x)) q
          (subst (λ s. OperandRun (word t o ∷ s) (one (with_exception t x)) q)
          (sym (is ∙ ap (λ s. with_word ∷ s) is_word)) (excepted_run t u o x q)) k
    ]),
  )
    where
      reads : (v : Term) (o : Option (List ℕ)) (s : List Symbol) (op : Tree) (r' : List Symbol)
          → OperandRun (word v o ∷ s) op r' → After K ors ands op r' e → AfterWord K ors ands v s e
      reads v o s op r' (bare_run _ _ _) k = inl k
      reads v o s op r' (excepted_run _ u _ x q) k = inr (
        word u (Some x) ∷ q,
        refl,
        (u, x, q, refl, k),
      )

  -- an operand is wanted at anything else, or at the end
  pub want_other : (r : List Symbol) (e : Tree) → Want K ors ands r e
      → ((t : List Symbol) → r ≢ opening ∷ t)
      → ((t : Term) (o : Option (List ℕ)) (q : List Symbol) → r ≢ word t o ∷ q) → ⊥
  want_other r e h no_opening no_word =
      let at = want_operand K ors ands r e h in
      refuse r at.0 at.1 at.2 no_opening no_word
    where
      refuse : (r : List Symbol) (op : Tree) (r' : List Symbol) → OperandRun r op r'
          → ((t : List Symbol) → r ≢ opening ∷ t)
          → ((t : Term) (o : Option (List ℕ)) (q : List Symbol) → r ≢ word t o ∷ q) → ⊥
      refuse r op r' (bare_run t o q) no_opening no_word = no_word t o q refl
      refuse r op r' (excepted_run t u o x q) no_opening no_word = no_word t o
          (with_word ∷ word u (Some x) ∷ q) refl
      refuse r op r' (group_run ts es q h) no_opening no_word = no_opening ts refl

-- a parenthesis closes a group, whose list is an operand of the group around it
pub after_closing : (K : Goal) (outer_ors outer_ands ors ands : List Tree) (op : Tree)
    (r : List Symbol) (e : Tree) → After (Closed K outer_ors outer_ands) ors ands op (closing ∷ r) e
    ↔ After K outer_ors outer_ands (any_of (ors ++ all_of (ands ++ op ∷ []) ∷ [])) r e
after_closing K outer_ors outer_ands ors ands op r e = (
  (λ h. elim h [
    | inl (inl k) ↦ let same : k.0 ≡ r = cc in
        subst (λ s. After K outer_ors outer_ands (any_of (ors ++ all_of (ands ++ op ∷ []) ∷ [])) s
        e) same k.2
    | inl (inr (us, gs, p, is, m, k)) ↦ absurd (cc)
    | inr (us, is, w) ↦ absurd (cc)
  ]),
  (λ k. inl (inl (r, refl, k))),
)

-- no parenthesis closes what none opened
pub after_closing_none : (ors ands : List Tree) (op : Tree) (r : List Symbol) (e : Tree)
    → After Ended ors ands op (closing ∷ r) e → ⊥
after_closing_none ors ands op r e h =
    elim h [ inl (inl k) ↦ cc | inl (inr (us, gs, p, is, m, k)) ↦ cc | inr (us, is, w) ↦ cc ]

-- at the end of the list
pub after_end : (ors ands : List Tree) (op e : Tree)
    → After Ended ors ands op [] e ↔ (any_of (ors ++ all_of (ands ++ op ∷ []) ∷ []) ≡ e)
after_end ors ands op e = (
  (λ h. elim h [
    | inl (inl k) ↦ k.1
    | inl (inr (us, gs, p, is, m, k)) ↦ absurd (cc)
    | inr (us, is, w) ↦ absurd (cc)
  ]),
  (λ k. inl (inl (refl, k))),
)

pub after_end_open : (K : Goal) (outer_ors outer_ands ors ands : List Tree) (op e : Tree)
    → After (Closed K outer_ors outer_ands) ors ands op [] e → ⊥
after_end_open K outer_ors outer_ands ors ands op e h =
    elim h [
      | inl (inl k) ↦ let n = k.1 in cc
      | inl (inr (us, gs, p, is, m, k)) ↦ cc
      | inr (us, is, w) ↦ cc
    ]

-- ---- each state can be completed

abbrev pub Lives : Goal → Type 0
Lives K = (x : Tree) → (r : List Symbol) × (e : Tree) × K x r e

pub ended_lives : Lives Ended
ended_lives x = ([], x, (refl, refl))

pub after_lives : (K : Goal) → Lives K → (ors ands : List Tree) (op : Tree)
    → (r : List Symbol) × (e : Tree) × After K ors ands op r e
after_lives K lives ors ands op =
    let k = lives (any_of (ors ++ all_of (ands ++ op ∷ []) ∷ [])) in
    (k.0, k.1, inl (inl k.2))

pub closed_lives : (K : Goal) → Lives K → (ors ands : List Tree) → Lives (Closed K ors ands)
closed_lives K lives ors ands x =
    let k = after_lives K lives ors ands x in
    (closing ∷ k.0, k.1, (k.0, refl, k.2))

abbrev some_term : Term
some_term = record { key = 97 ∷ []; plus = false; exception = None }

pub want_lives : (K : Goal) → Lives K → (ors ands : List Tree)
    → (r : List Symbol) × (e : Tree) × Want K ors ands r e
want_lives K lives ors ands =
    let k = after_lives K lives ors ands (one some_term) in (
      word some_term None ∷ k.0,
      k.1,
      operand_want K ors ands (word some_term None ∷ k.0) k.1 (one some_term) k.0
          (bare_run some_term None k.0) k.2,
    )

pub word_lives : (K : Goal) → Lives K → (ors ands : List Tree) (t : Term)
    → (r : List Symbol) × (e : Tree) × AfterWord K ors ands t r e
word_lives K lives ors ands t =
    let k = after_lives K lives ors ands (one t) in
    (k.0, k.1, inl k.2)

pub exception_lives : (K : Goal) → Lives K → (ors ands : List Tree) (t : Term)
    → (r : List Symbol) × (e : Tree) × WantException K ors ands t r e
exception_lives K lives ors ands t =
    let x : List ℕ = 97 ∷ [] in
    let k = after_lives K lives ors ands (one (with_exception t x)) in
    (word some_term (Some x) ∷ k.0, k.1, (some_term, x, k.0, refl, k.2))
