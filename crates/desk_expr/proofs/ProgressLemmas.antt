-- One more token has been read.
use Rattle.std.proofs.Common.{◌≡◌, ◌↔◌, ◌∙◌, ℕ, zero, suc, ◌+◌, ◌-◌, ◌<◌, ◌≤◌, Bool, true, false}
use Rattle.std.proofs.Common.{List, [], ◌∷◌, ◌++◌, length, take, sym, subst, ap, refl, append_assoc}
use Rattle.std.proofs.Common.{arith, ⊎_elim, Some, length-append}
use Rattle.std.specs.Prelude.{fold, slice_get, ◌&&◌, not, if◌then◌else◌, ◌≢◌}
use Rattle.std.proofs.lemmas.List.{map-append, append-nil, take_all, take-append-le}
use Rattle.std.proofs.str.Laws.{order}
use Rattle.desk_base.specs.Limits as limit
use Rattle.desk_expr.specs.declared.reader.Group.{Group}
use Rattle.desk_expr.specs.declared.reader.Reader.{Reader}
use Rattle.desk_expr.specs.declared.reader.State.{State}
use Rattle.desk_expr.specs.declared.reader.State.TheVariants.{Operand, Word, Exception, Done}
use Rattle.desk_tokens.specs.declared.token.Kind.TheVariants.{Bad}
use Rattle.desk_expr.specs.declared.word.Halt.{Halt}
use Rattle.desk_expr.specs.declared.word.Halt.TheVariants as halt
use Rattle.desk_expr.specs.Halting.{fault_at}
use Rattle.desk_expr.specs.declared.progress.Progress.{Progress}
use Rattle.desk_expr.specs.declared.fault.ParseFault.{ParseFault}
use Rattle.desk_expr.specs.declared.fault.ParseFault.TheVariants.{Empty, BadToken, Unexpected}
use Rattle.desk_expr.specs.declared.fault.ParseFault.TheVariants.{Unclosed, TooDeep, TooLong}
use Rattle.desk_expr.specs.declared.fault.ParseFault.TheVariants.{TooManyTerms, Memory}
use Rattle.desk_expr.specs.Tree.{Tree}
use Rattle.desk_tokens.specs.Tokens.{Lexeme}
use Rattle.desk_expr.specs.Grammar.{Symbol, SpellsTree}
use Rattle.desk_expr.specs.Spelling.{symbol_of, symbols, open_after, still_open, is_word, is_with}
use Rattle.desk_expr.specs.Spelling.{operand_words_after, operand_words, AllFronts, Begins, Stands}
use Rattle.desk_expr.specs.Spelling.{closings, ClosingsComplete, EndReason}
use Rattle.desk_expr.specs.Counting.{CountsToken, IsOver}
use Rattle.desk_expr.specs.Rest.{Ended}
use Rattle.desk_expr.specs.Reading.{Rest, RestIn, Steps, Stops, EndsWith, goal_from}
use Rattle.desk_expr.specs.Progress.{HasRead, StopsAfter, is_started, ends_with_with}
use Rattle.desk_expr.proofs.Residual.{ended_lives, want_lives, after_lives, word_lives, exception_lives}
use Rattle.desk_expr.proofs.Steps.{from_lives}
use Rattle.desk_expr.proofs.Balance.{completed_open}

-- ---- one token after a list

pub symbols_push : (front : List Lexeme) (t : Lexeme) (r : List Symbol)
    → symbols (front ++ t ∷ []) ++ r ≡ symbols front ++ symbol_of t ∷ r
symbols_push front t r =
    ap (λ l. l ++ r) (map-append symbol_of front (t ∷ []))
    ∙ append_assoc (symbols front) (symbol_of t ∷ []) r

fold_push : (places : List ℕ) (ts : List Lexeme) (t : Lexeme)
    → fold open_after places (ts ++ t ∷ []) ≡ open_after (fold open_after places ts) t
fold_push places [] t = refl
fold_push places (u ∷ ts) t = fold_push (open_after places u) ts t

pub still_open_push : (front : List Lexeme) (t : Lexeme)
    → still_open (front ++ t ∷ []) ≡ open_after (still_open front) t
still_open_push front t = fold_push [] front t

words_push : (b : Bool) (ss : List Symbol) (s : Symbol)
    → operand_words_after b (ss ++ s ∷ [])
    ≡ operand_words_after b ss + (if is_word s && not (ends_with_with b ss) then 1 else 0)
words_push b [] s = omega arith
words_push b (u ∷ ss) s = omega (arith, words_push (is_with u) ss s)

with_push : (b : Bool) (ss : List Symbol) (s : Symbol) → ends_with_with b (ss ++ s ∷ []) ≡ is_with s
with_push b [] s = refl
with_push b (u ∷ ss) s = with_push (is_with u) ss s

pub operand_words_push : (front : List Lexeme) (t : Lexeme)
    → operand_words (symbols (front ++ t ∷ []))
    ≡ operand_words (symbols front)
    + (if is_word (symbol_of t) && not (ends_with_with false (symbols front)) then 1 else 0)
operand_words_push front t = ap operand_words (map-append symbol_of front (t ∷ []))
    ∙ words_push false (symbols front) (symbol_of t)

pub ends_with_push : (front : List Lexeme) (t : Lexeme)
    → ends_with_with false (symbols (front ++ t ∷ [])) ≡ is_with (symbol_of t)
ends_with_push front t = ap (ends_with_with false) (map-append symbol_of front (t ∷ []))
    ∙ with_push false (symbols front) (symbol_of t)

started_push : (front : List Lexeme) (t : Lexeme) → is_started (front ++ t ∷ []) ≡ true
started_push [] t = refl
started_push (u ∷ front) t = refl

pub fronts_push : (P : List Lexeme → Type 0) (front : List Lexeme) (t : Lexeme) → AllFronts P front
    → P (front ++ t ∷ []) → AllFronts P (front ++ t ∷ [])
fronts_push P front t before here n =
    ⊎_elim
    (λ inside. subst P (sym (take-append-le n front (t ∷ []) (omega arith))) (before n))
    (λ whole. subst P (sym (take_all n (front ++ t ∷ [])
    (omega (arith, length-append front (t ∷ []))))) here)
    (order n (length front + 1))

-- ---- what has been read begins a spelled list

state_lives : (gs : List Group) (g : Group) (st : State)
    → (r : List Symbol) × (e : Tree) × RestIn (goal_from Ended gs) g st r e
state_lives gs g Operand = want_lives (goal_from Ended gs) (from_lives Ended ended_lives gs)
    g.lists.items g.operands.items
state_lives gs g (Word t) = word_lives (goal_from Ended gs) (from_lives Ended ended_lives gs)
    g.lists.items g.operands.items t
state_lives gs g (Exception t) = exception_lives (goal_from Ended gs)
    (from_lives Ended ended_lives gs) g.lists.items g.operands.items t
state_lives gs g (Done op) = after_lives (goal_from Ended gs) (from_lives Ended ended_lives gs)
    g.lists.items g.operands.items op

-- the reader stands for the tokens
abbrev pub StandsFor : List Lexeme → Reader → Type 0
StandsFor front m = (r : List Symbol) (e : Tree) → SpellsTree (symbols front ++ r) e ↔ Rest m r e

pub begins : (front : List Lexeme) (m : Reader) → StandsFor front m
    → Begins SpellsTree (symbols front)
begins front m stands = let k = state_lives m.outer.items m.inner m.state in
    (k.0, k.1, (stands k.0 k.1).1 k.2)

pub stands_push : (front : List Lexeme) (t : Lexeme) (m n : Reader) → StandsFor front m
    → Steps m (symbol_of t) n → StandsFor (front ++ t ∷ []) n
stands_push front t m n stands steps r e =
    let at = symbols_push front t r in (
      (λ h. (steps r e).0 ((stands (symbol_of t ∷ r) e).0 (subst (λ l. SpellsTree l e) at h))),
      (λ h. subst (λ l. SpellsTree l e) (sym at)
          ((stands (symbol_of t ∷ r) e).1 ((steps r e).1 h))),
    )

-- ---- the progress

pub nothing_read : (m : Progress) → StandsFor [] m.reader → m.counts.open_places.items ≡ []
    → m.counts.terms ≡ 0 → m.counts.after_with ≡ false → m.started ≡ false → HasRead [] m
nothing_read m stands no_places no_terms no_with no_start =
    record {
      rest = stands;
      open_places = no_places;
      terms = no_terms;
      after_with = no_with;
      started = no_start;
      stands = λ n. subst (Stands SpellsTree) (sym (take_nothing n))
          (record { begins = begins [] m.reader stands; depth = omega arith; terms = omega arith });
    }
  where
    take_nothing : (n : ℕ) → take {A = Lexeme} n [] ≡ []
    take_nothing zero = refl
    take_nothing (suc n) = refl

module _ (front : List Lexeme) (t : Lexeme) (m : Progress) (read : HasRead front m) where
  open_is : open_after m.counts.open_places.items t ≡ still_open (front ++ t ∷ [])
  open_is = ap (λ p. open_after p t) read.open_places ∙ sym (still_open_push front t)

  terms_is : m.counts.terms + (if is_word (symbol_of t) && not m.counts.after_with then 1 else 0)
      ≡ operand_words (symbols (front ++ t ∷ []))
  terms_is =
      (λ i. read.terms i + (if is_word (symbol_of t) && not (read.after_with i) then 1 else 0))
      ∙ sym (operand_words_push front t)

  pub one_read : (n : Progress) → Steps m.reader (symbol_of t) n.reader
      → CountsToken m.counts t n.counts → n.started ≡ true → HasRead (front ++ t ∷ []) n
  one_read n steps counts start =
      let stands = stands_push front t m.reader n.reader read.rest steps in
      let places : n.counts.open_places.items ≡ still_open (front ++ t ∷ []) = counts.open_places
      ∙ open_is in
      let terms : n.counts.terms ≡ operand_words (symbols (front ++ t ∷ [])) = counts.terms
      ∙ terms_is in
      record {
        rest = stands;
        open_places = places;
        terms = terms;
        after_with = counts.after_with ∙ sym (ends_with_push front t);
        started = start ∙ sym (started_push front t);
        stands = fronts_push (Stands SpellsTree) front t read.stands (record {
          begins = begins (front ++ t ∷ []) n.reader stands;
          depth = subst (λ p. length p ≤ limit.open_parentheses) places counts.depth;
          terms = subst (λ k. k ≤ limit.expression_terms) terms counts.few;
        });
      }

  pub refused : ((r : List Symbol) (e : Tree) → Rest m.reader (symbol_of t ∷ r) e → ⊥)
      → Begins SpellsTree (symbols (front ++ t ∷ [])) → ⊥
  refused refuses b =
      refuses b.0 b.1 ((read.rest (symbol_of t ∷ b.0) b.1).0
      (subst (λ l. SpellsTree l b.1) (symbols_push front t b.0) b.2))

  pub stopped : t.kind ≢ Bad → (h : Halt) → Stops m.reader (symbol_of t) h
      → StopsAfter front t (fault_at h t.start)
  stopped good halt.Unexpected h = (good, refused h, refl)
  stopped good halt.Unclosed h = absurd h
  stopped good (halt.Memory e) h = tt

  pub over : (n : Reader) → Steps m.reader (symbol_of t) n → (f : ParseFault) → IsOver m.counts t f
      → StopsAfter front t f
  over n steps (Empty p) h = h
  over n steps (BadToken p) h = absurd h
  over n steps (Unexpected p) h = absurd h
  over n steps (Unclosed p) h = h
  over n steps (TooDeep p) h = (
    begins (front ++ t ∷ []) n (stands_push front t m.reader n read.rest steps),
    subst (λ l. limit.open_parentheses < length l) open_is h.0,
    h.1,
  )
  over n steps (TooLong p) h = h
  over n steps (TooManyTerms p) h = (
    begins (front ++ t ∷ []) n (stands_push front t m.reader n read.rest steps),
    subst (λ l. length l ≤ limit.open_parentheses) open_is h.0,
    subst (λ k. limit.expression_terms < k) terms_is h.1,
    h.2,
  )
  over n steps (Memory e) h = tt

-- ---- the end

module _ (front : List Lexeme) (m : Progress) (read : HasRead front m) where
  pub spelled_here : (e : Tree) → SpellsTree (symbols front) e ↔ Rest m.reader [] e
  spelled_here e = (
    (λ h. (read.rest [] e).0 (subst (λ l. SpellsTree l e) (sym (append-nil (symbols front))) h)),
    (λ h. subst (λ l. SpellsTree l e) (append-nil (symbols front)) ((read.rest [] e).1 h)),
  )

  -- if the text spells nothing and closing parentheses complete it, one is open
  pub last_is_open : ((e : Tree) → SpellsTree (symbols front) e → ⊥)
      → ClosingsComplete SpellsTree (symbols front)
      → (p : ℕ) × (slice_get (still_open front) (length (still_open front) - 1) ≡ Some p)
  last_is_open none (
    zero,
    e,
    h,
  ) = absurd (none e (subst (λ l. SpellsTree l e) (append-nil (symbols front)) h))
  last_is_open none (suc n, e, h) =
      let few = completed_open front (suc n) e h in
      place_at (still_open front) (length (still_open front) - 1) (omega arith)
    where
      place_at : (places : List ℕ) (k : ℕ) → k < length places
          → (p : ℕ) × (slice_get places k ≡ Some p)
      place_at [] k within = absurd (omega arith)
      place_at (p ∷ places) zero within = (p, refl)
      place_at (p ∷ places) (suc k) within = place_at places k (omega arith)

  pub ends_unexpected : EndsWith m.reader halt.Unexpected
      → ClosingsComplete SpellsTree (symbols front) → ⊥
  ends_unexpected ends (n, e, h) = ends n e ((read.rest (closings n) e).0 h)

  pub ends_unclosed : (place : ℕ) → EndsWith m.reader halt.Unclosed
      → ((p : ℕ) → slice_get m.counts.open_places.items (length m.counts.open_places.items - 1)
      ≡ Some p → place ≡ p) → (end : ℕ) → EndReason SpellsTree end front (Unclosed place)
  ends_unclosed place ends last end =
      let none : (e : Tree) → SpellsTree (symbols front) e → ⊥ =
      λ e h. ends.0 e ((spelled_here e).0 h) in
      let completes : ClosingsComplete SpellsTree (symbols front) =
      (ends.1, ends.2, (read.rest (closings ends.1) ends.2).1 ends.3) in
      let found = last_is_open none completes in
      let is : place ≡ found.0 = last found.0
      (ap (λ (l : List ℕ). slice_get l (length l - 1)) read.open_places ∙ found.1) in
      (completes, none, found.1 ∙ ap Some (sym is))
