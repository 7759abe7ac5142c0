-- One term: the steps of its reader, and a whole text.
use Rattle.std.proofs.Common.{◌≡◌, ◌↔◌, ◌∙◌, ◌⊎◌, inl, inr, ℕ, zero, suc, ◌+◌, ◌-◌, ◌≤◌, Bool, true}
use Rattle.std.proofs.Common.{false, List, [], ◌∷◌, ◌++◌, length, take, sym, subst, ap, refl, arith}
use Rattle.std.proofs.Common.{Option, Some, None, Result, Ok, Err, length-append, length-take}
use Rattle.std.proofs.Common.{rules}
use Rattle.std.specs.Prelude.{map, fold, IfOk, IfErr, alloc_error, ◌≢◌, ◌&&◌, not, if◌then◌else◌}
use Rattle.std.proofs.lemmas.List.{append-nil, length-map}
use Rattle.desk_base.specs.declared.profile.Profile.{Profile}
use Rattle.desk_base.specs.Limits as limit
use Rattle.desk_tokens.specs.declared.cut.TokenCuts.{TokenCuts}
use Rattle.desk_expr.specs.declared.fault.ParseFault.{ParseFault}
use Rattle.desk_expr.specs.declared.fault.ParseFault.TheVariants.{Empty, BadToken, Unexpected}
use Rattle.desk_expr.specs.declared.fault.ParseFault.TheVariants.{Unclosed, TooDeep, TooLong}
use Rattle.desk_expr.specs.declared.fault.ParseFault.TheVariants.{TooManyTerms, Memory}
use Rattle.desk_expr.specs.declared.term.Term.{Term}
use Rattle.desk_expr.specs.declared.term_reader.TermState.{TermState}
use Rattle.desk_expr.specs.declared.term_reader.TermState.TheVariants as state
use Rattle.desk_tokens.specs.declared.token.Kind.{Kind}
use Rattle.desk_tokens.specs.declared.token.Kind.TheVariants as kind
use Rattle.desk_tokens.specs.declared.token.Token.{Token}
use Rattle.desk_expr.specs.declared.word.Halt.{Halt}
use Rattle.desk_expr.specs.declared.word.Halt.TheVariants as halt
use Rattle.desk_expr.specs.Halting.{fault_at}
use Rattle.desk_expr.specs.Words.{with_exception}
use Rattle.desk_tokens.specs.Tokens.{Lexeme, lexeme, AreTokensBy}
use Rattle.desk_tokens.specs.Given.{TokenGiven}
use Rattle.desk_expr.specs.Grammar.{Symbol, with_word, word, bad, SpellsTerm, bare, excepted}
use Rattle.desk_expr.specs.Spelling.{symbol, symbol_of, symbols, open_after, is_word, is_with}
use Rattle.desk_expr.specs.Spelling.{operand_words_after, closings, AllFronts, Begins, Stands}
use Rattle.desk_expr.specs.Spelling.{Reason, StopsAtToken, StopsAtEnd, IsStopBy, SpellsTermAloneBy}
use Rattle.desk_expr.specs.Spelling.{SpellsTermWithinBy}
use Rattle.desk_expr.specs.TermReading.{TermRest, HasBegun, TermSteps, TermStops, TermEnds, TermFalls}
use Rattle.desk_expr.specs.contracts.term.TermPartialEq.TheImpl.{ghosts}
use Rattle.desk_tokens.proofs.Lexing.{same_tokens}
use Rattle.desk_expr.proofs.ProgressLemmas.{symbols_push, fronts_push}
use Rattle.desk_expr.proofs.ParseLemmas.{SoFar, faults_spell, stop_spells, symbols_behind, symbols_split}
use Rattle.desk_expr.proofs.ParseLemmas.{stop_by_reason}

-- ---- steps

pub term_inv : (r : List Symbol) (t : Term) → SpellsTerm r t
    → ((o : Option (List ℕ)) × (r ≡ word t o ∷ []))
    ⊎ ((v u : Term) × (o : Option (List ℕ)) × (x : List ℕ)
    × (r ≡ word v o ∷ with_word ∷ word u (Some x) ∷ []) × (with_exception v x ≡ t))
term_inv r t (bare _ o) = inl (o, refl)
term_inv r t (excepted v u o x) = inr (v, u, o, x, refl, refl)

pub start_word : (s : Symbol) (v : Term) (o : Option (List ℕ)) → s ≡ word v o
    → TermSteps state.Start s (state.Word v)
start_word s v o is = (
  tt,
  λ r t. (
    (λ h. elim (term_inv (s ∷ r) t h) [
      | inl (p, e) ↦ inl (let a = is in cc, let a = is in cc)
      | inr (w, u, p, x, e, same) ↦
          let tail : r ≡ with_word ∷ word u (Some x) ∷ [] = cc in
          let head : w ≡ v = let a = is in cc in
          inr (u, x, tail, subst (λ (y : Term). with_exception y x ≡ t) head same)
    ]),
    (λ h. elim h [
      | inl (none, same) ↦ subst (λ q. SpellsTerm (s ∷ q) t) (sym none)
          (subst (λ q. SpellsTerm (q ∷ []) t) (sym is)
          (subst (λ y. SpellsTerm (word v o ∷ []) y) same (bare v o)))
      | inr (u, x, tail, same) ↦ subst (λ q. SpellsTerm (s ∷ q) t) (sym tail)
          (subst (λ q. SpellsTerm (q ∷ with_word ∷ word u (Some x) ∷ []) t) (sym is)
          (subst (λ y. SpellsTerm (word v o ∷ with_word ∷ word u (Some x) ∷ []) y) same
          (excepted v u o x)))
    ]),
  ),
)

pub start_other : (s : Symbol) → ((v : Term) (o : Option (List ℕ)) → s ≡ word v o → ⊥)
    → (r : List Symbol) (t : Term) → TermRest state.Start (s ∷ r) t → ⊥
start_other s none r t h =
    elim (term_inv (s ∷ r) t h) [
      | inl (o, e) ↦ none t o (cc)
      | inr (v, u, o, x, e, same) ↦ none v o (cc)
    ]

pub word_with : (s : Symbol) (v : Term) → s ≡ with_word
    → TermSteps (state.Word v) s (state.Exception v)
word_with s v is = (
  tt,
  λ r t. (
    (λ h. elim h [
      | inl (none, same) ↦ absurd (cc)
      | inr (u, x, e, same) ↦ let tail : r ≡ word u (Some x) ∷ [] = cc in (u, x, tail, same)
    ]),
    (λ (u, x, e, same). inr (u, x, (λ i. is i ∷ e i), same)),
  ),
)

pub word_other : (s : Symbol) (v : Term) → s ≢ with_word → (r : List Symbol) (t : Term)
    → TermRest (state.Word v) (s ∷ r) t → ⊥
word_other s v other r t (inl (none, same)) = cc
word_other s v other r t (inr (u, x, e, same)) = other (cc)

pub exception_word : (s : Symbol) (v : Term) (u : Term) (x : List ℕ) (new : Term)
    → s ≡ word u (Some x) → new ≡ with_exception v x
    → TermSteps (state.Exception v) s (state.Done new)
exception_word s v u x new is new_is = (
  tt,
  λ r t. (
    (λ (w, y, e, same).
        let tail : r ≡ [] = cc in
        let same_id : y ≡ x = let a = is in cc in
        (tail, new_is ∙ ap (with_exception v) (sym same_id) ∙ same)),
    (λ (none, same). (u, x, (λ i. is i ∷ none i), sym new_is ∙ same)),
  ),
)

pub exception_other : (s : Symbol) (v : Term) → ((u : Term) (x : List ℕ) → s ≡ word u (Some x) → ⊥)
    → (r : List Symbol) (t : Term) → TermRest (state.Exception v) (s ∷ r) t → ⊥
exception_other s v none r t (u, x, e, same) = none u x (cc)

pub done_other : (s : Symbol) (v : Term) (r : List Symbol) (t : Term)
    → TermRest (state.Done v) (s ∷ r) t → ⊥
done_other s v r t (none, same) = cc

-- ---- short lists

opened_few : (places : List ℕ) (ts : List Lexeme)
    → length (fold open_after places ts) ≤ length places + length ts
opened_few places [] = omega arith
opened_few places (t ∷ ts) =
    let here = open_one t.kind t.text t.start t.end places in
    omega (arith, here, opened_few (open_after places t) ts)
  where
    open_one : (k : Kind) (w : List ℕ) (start end : ℕ) (places : List ℕ)
        → length (open_after places (record { text = w; start = start; end = end; kind = k }))
        ≤ length places + 1
    open_one kind.Opening w start end places = omega (arith, length-append places (start ∷ []))
    open_one kind.Closing w start end places = omega (arith, length-take (length places - 1) places)
    open_one _ w start end places = omega arith

one_at_most : (b : Bool) → (if b then 1 else 0) ≤ 1
one_at_most true = omega arith
one_at_most false = omega arith

words_few : (b : Bool) (ss : List Symbol) → operand_words_after b ss ≤ length ss
words_few b [] = omega arith
words_few b (s ∷ ss) = omega (arith, one_at_most (is_word s && not b), words_few (is_with s) ss)

pub term_short : (ss : List Symbol) (t : Term) → SpellsTerm ss t → length ss ≤ 3
term_short ss t (bare v o) = omega arith
term_short ss t (excepted v u o x) = omega arith

-- a front of a term is within the limits
pub short_stands : (front : List Lexeme) → Begins SpellsTerm (symbols front)
    → Stands SpellsTerm front
short_stands front b =
    let few = term_short (symbols front ++ b.0) b.1 b.2 in
    let size : length front ≤ 3 =
    omega (arith, few, length-append (symbols front) b.0, length-map front symbol_of) in
    record {
      begins = b;
      depth = omega (arith, size, opened_few [] front);
      terms = omega (arith, size, words_few false (symbols front), length-map front symbol_of);
    }

-- ---- what has been read

abbrev some_term : Term
some_term = record { key = 97 ∷ []; plus = false; exception = None }

lives : (m : TermState) → (r : List Symbol) × (t : Term) × TermRest m r t
lives state.Start = (word some_term None ∷ [], some_term, bare some_term None)
lives (state.Word v) = ([], v, inl (refl, refl))
lives (state.Exception v) = let x : List ℕ = 97 ∷ [] in
    (word some_term (Some x) ∷ [], with_exception v x, (some_term, x, refl, refl))
lives (state.Done v) = ([], v, (refl, refl))

abbrev pub IsStart : TermState → Type 0
IsStart state.Start = Unit {0}
IsStart (state.Word v) = ⊥
IsStart (state.Exception v) = ⊥
IsStart (state.Done v) = ⊥

-- the reader stands for these tokens
pub record TermRead (front : List Lexeme) (m : TermState) : Type 0 where
  pub rest : (r : List Symbol) (t : Term) → SpellsTerm (symbols front ++ r) t ↔ TermRest m r t
  pub start : IsStart m → front ≡ []
  pub stands : AllFronts (Stands SpellsTerm) front

begins : (front : List Lexeme) (m : TermState)
    → ((r : List Symbol) (t : Term) → SpellsTerm (symbols front ++ r) t ↔ TermRest m r t)
    → Begins SpellsTerm (symbols front)
begins front m rest = let k = lives m in (k.0, k.1, (rest k.0 k.1).1 k.2)

take_nothing : (n : ℕ) → take {A = Lexeme} n [] ≡ []
take_nothing zero = refl
take_nothing (suc n) = refl

pub nothing_read : TermRead [] state.Start
nothing_read =
    let rest : (r : List Symbol) (t : Term) → SpellsTerm ([] ++ r) t ↔ TermRest state.Start r t =
    λ r t. ((λ h. h), (λ h. h)) in
    record {
      rest = rest;
      start = λ h. refl;
      stands = λ n. subst (Stands SpellsTerm) (sym (take_nothing n))
          (short_stands [] (begins [] state.Start rest));
    }

not_start : (n : TermState) → HasBegun n → IsStart n → ⊥
not_start state.Start h k = h
not_start (state.Word v) h k = k
not_start (state.Exception v) h k = k
not_start (state.Done v) h k = k

module _ (front : List Lexeme) (t : Lexeme) (m : TermState) (read : TermRead front m) where
  pub one_read : (n : TermState) → TermSteps m (symbol_of t) n → TermRead (front ++ t ∷ []) n
  one_read n steps =
      let rest : (r : List Symbol) (v : Term) → SpellsTerm (symbols (front ++ t ∷ [])
      ++ r) v ↔ TermRest n r v =
      λ r v. (
        (λ h. (steps.1 r v).0 ((read.rest (symbol_of t ∷ r) v).0
            (subst (λ l. SpellsTerm l v) (symbols_push front t r) h))),
        (λ h. subst (λ l. SpellsTerm l v) (sym (symbols_push front t r))
            ((read.rest (symbol_of t ∷ r) v).1 ((steps.1 r v).1 h))),
      ) in
      record {
        rest = rest;
        start = λ h. absurd (not_start n steps.0 h);
        stands = fronts_push (Stands SpellsTerm) front t read.stands
            (short_stands (front ++ t ∷ []) (begins (front ++ t ∷ []) n rest));
      }

  -- why a token can't be there, apart from lack of memory
  abbrev pub TermStopsAfter : ParseFault → Type 0
  TermStopsAfter f = (f ≡ Memory alloc_error) ⊎ Reason SpellsTerm front t f

  pub stopped : t.kind ≢ kind.Bad → (h : Halt) → TermStops m (symbol_of t) h
      → TermStopsAfter (fault_at h t.start)
  stopped good halt.Unexpected h =
      inr (
        good,
        λ b. h b.0 b.1 ((read.rest (symbol_of t ∷ b.0) b.1).0
            (subst (λ l. SpellsTerm l b.1) (symbols_push front t b.0) b.2)),
        refl,
      )
  stopped good halt.Unclosed h = absurd h
  stopped good (halt.Memory e) h = inl refl

-- ---- a whole text

only_memory : (profile : Profile) (text : List ℕ) (f : ParseFault) → f ≡ Memory alloc_error
    → IsStopBy SpellsTerm profile text f
only_memory profile text f is = subst (IsStopBy SpellsTerm profile text) (sym is) tt

pub stop_at_token : (profile : Profile) (text : List ℕ) (yielded : List Token) (t : Token)
    (cuts new : TokenCuts) (f : ParseFault) → length text ≤ limit.expression_bytes
    → SoFar profile text yielded cuts → TokenGiven cuts (Some t) new
    → AllFronts (Stands SpellsTerm) (map lexeme yielded)
    → (f ≡ Memory alloc_error) ⊎ Reason SpellsTerm (map lexeme yielded) (lexeme t) f
    → IsStopBy SpellsTerm profile text f
stop_at_token profile text yielded t cuts new f short so_far given stands (inl is) = only_memory
    profile text f is
stop_at_token profile text yielded t cuts new f short so_far given stands (inr reason) =
    stop_by_reason SpellsTerm profile text yielded t cuts new f short so_far given stands reason

-- an exception doesn't come first
no_exception_first : (v : Term)
    → ((r : List Symbol) (t : Term) → TermRest (state.Exception v) r t → SpellsTerm r t) → ⊥
no_exception_first v all =
    let x : List ℕ = 97 ∷ [] in
    let t : Term = with_exception v x in
    let h : SpellsTerm (word some_term (Some x) ∷ []) t =
    all (word some_term (Some x) ∷ []) t (some_term, x, refl, refl) in
    elim (term_inv (word some_term (Some x) ∷ []) t h) [
      | inl (o, e) ↦ let same : some_term ≡ t = cc in
          let none : None ≡ Some x = ap (λ (y : Term). y.exception) same in absurd (cc)
      | inr (w, u, o, y, e, same) ↦ absurd (cc)
    ]

exception_open : (v : Term) (n : ℕ) (t : Term) → TermRest (state.Exception v) (closings n) t → ⊥
exception_open v zero t (u, x, e, same) = cc
exception_open v (suc n) t (u, x, e, same) = cc

pub word_ends : (v : Term) → TermEnds (state.Word v) v
word_ends v t = (
  (λ h. elim h [ inl a ↦ a.1 | inr (u, x, e, same) ↦ absurd (cc) ]),
  (λ h. inl (refl, h)),
)

pub done_ends : (v : Term) → TermEnds (state.Done v) v
done_ends v t = ((λ h. h.1), (λ h. (refl, h)))

module _ (profile : Profile) (text : List ℕ) (ts : List Lexeme) (m : TermState)
    (short : length text ≤ limit.expression_bytes) (are : AreTokensBy profile 0 text ts)
    (read : TermRead ts m) where
  pub spelled_at_end : (r : Result Term ParseFault) → IfOk r (TermEnds m)
      → IfOk r (SpellsTermWithinBy profile text)
  spelled_at_end (Ok t) h = (
    short,
    (
      ts,
      are,
      subst (λ l. SpellsTerm l t) (append-nil (symbols ts)) ((read.rest [] t).1 ((h t).1 refl)),
    ),
  )
  spelled_at_end (Err f) h = h

  falls : (m : TermState) → TermRead ts m → (f : ParseFault) → TermFalls m (length text) f
      → IsStopBy SpellsTerm profile text f
  falls state.Start read f is =
      subst (IsStopBy SpellsTerm profile text) (sym is)
      (short, subst (AreTokensBy profile 0 text) (read.start tt) are, refl)
  falls (state.Word v) read f is = absurd is
  falls (state.Done v) read f is = absurd is
  falls (state.Exception v) read f is =
      subst (IsStopBy SpellsTerm profile text) (sym is) (short, inr (at_end ts are read))
    where
      at_end : (us : List Lexeme) → AreTokensBy profile 0 text us → TermRead us (state.Exception v)
          → StopsAtEnd SpellsTerm profile text (Unexpected (length text))
      at_end [] are read = absurd (no_exception_first v (λ r t. (read.rest r t).1))
      at_end (t ∷ us) are read = (
        t,
        us,
        are,
        read.stands,
        ((λ (n, u, h). exception_open v n u ((read.rest (closings n) u).0 h)), refl),
      )

  pub stopped_at_end : (r : Result Term ParseFault) → IfErr r (TermFalls m (length text))
      → IfErr r (IsStopBy SpellsTerm profile text)
  stopped_at_end (Ok t) h = h
  stopped_at_end (Err f) h = falls m read f h

-- ---- one text spells one term

one_term : (r : List Symbol) (a b : Term) → SpellsTerm r a → SpellsTerm r b → a ≡ b
one_term r a b h k =
    elim (term_inv r a h) [
      | inl (o, e) ↦ elim (term_inv r b k) [
        | inl (p, f) ↦ let same = sym e ∙ f in cc
        | inr (v, u, p, x, f, is) ↦ let same = sym e
            ∙ f in absurd (cc)
      ]
      | inr (v, u, o, x, e, is) ↦ elim (term_inv r b k) [
        | inl (p, f) ↦ let same = sym e ∙ f in absurd (cc)
        | inr (w, z, p, y, f, is') ↦
            let same = sym e ∙ f in
            let heads : v ≡ w = cc in
            let ids : x ≡ y = cc in
            sym is ∙ (λ i. with_exception (heads i) (ids i)) ∙ is'
      ]
    ]

pub spells_term_once : (profile : Profile) (text : List ℕ) (a b : Term)
    → SpellsTermAloneBy profile text a → SpellsTermAloneBy profile text b → a ≡ b
spells_term_once profile text a b (ts, are, h) (us, are', k) =
    let same : us ≡ ts = same_tokens profile 0 text us ts are' are in
    one_term (symbols ts) a b h (subst (λ l. SpellsTerm (symbols l) b) same k)

-- ---- a text that stops spells no term

-- a term has words and 'with' alone
pub has_words : (s : Symbol) → ((t : Term) (o : Option (List ℕ)) → word t o ≡ s → ⊥)
    → (with_word ≡ s → ⊥) → (ss : List Symbol) (t : Term) → SpellsTerm ss t
    → (front behind : List Symbol) → ss ≡ front ++ s ∷ behind → ⊥
has_words s no_word no_with ss t h [] behind is = elim (term_inv ss t h) [
  | inl (o, e) ↦ let same = sym e ∙ is in no_word t o (cc)
  | inr (v, u, o, x, e, k) ↦ let same = sym e ∙ is in
      no_word v o (cc)
]
has_words s no_word no_with ss t h (a ∷ []) behind is = elim (term_inv ss t h) [
  | inl (o, e) ↦ let same = sym e ∙ is in cc
  | inr (v, u, o, x, e, k) ↦ let same = sym e ∙ is in
      no_with (cc)
]
has_words s no_word no_with ss t h (a ∷ b ∷ []) behind is = elim (term_inv ss t h) [
  | inl (o, e) ↦ let same = sym e ∙ is in cc
  | inr (v, u, o, x, e, k) ↦ let same = sym e ∙ is in
      no_word u (Some x) (cc)
]
has_words s no_word no_with ss t h (a ∷ b ∷ c ∷ front) behind is =
    let few = term_short ss t h in
    absurd (omega (arith, few, ap length is, length-append front (s ∷ behind)))

pub good_term : (ss : List Symbol) (t : Term) → SpellsTerm ss t → (front behind : List Symbol)
    → ss ≡ front ++ bad ∷ behind → ⊥
good_term = has_words bad (λ t o e. cc) (λ e. cc)

no_reason : (profile : Profile) (text : List ℕ) (f : ParseFault) (e : Term)
    → StopsAtToken SpellsTerm profile text f → SpellsTermWithinBy profile text e → ⊥
no_reason profile text f e (front, t, behind, are, stands, reason) (short, (us, are', h)) =
    let same : us ≡ front ++ t ∷ behind =
    same_tokens profile 0 text us (front ++ t ∷ behind) are' are in
    none f reason (subst (λ l. SpellsTerm (symbols l) e) same h)
  where
    none : (f : ParseFault) → Reason SpellsTerm front t f
        → SpellsTerm (symbols (front ++ t ∷ behind)) e → ⊥
    none (Empty p) reason h = reason
    none (BadToken p) reason h =
        let is : symbol_of t ≡ bad = ap (λ k. symbol k t.text) reason.0 in
        good_term (symbols (front ++ t ∷ behind)) e h (symbols front) (symbols behind)
        (symbols_behind front t behind ∙ ap (λ s. symbols front ++ s ∷ symbols behind) is)
    none (Unexpected p) reason h = reason.1
        (symbols behind, e, subst (λ l. SpellsTerm l e) (symbols_split front t behind) h)
    none (Unclosed p) reason h = reason
    none (TooDeep p) reason h =
        let stand = short_stands (front ++ t ∷ []) reason.0 in let few = stand.depth in
        absurd (omega (arith, few, reason.1))
    none (TooLong p) reason h = reason
    none (TooManyTerms p) reason h =
        let stand = short_stands (front ++ t ∷ []) reason.0 in let few = stand.terms in
        absurd (omega (arith, few, reason.2))
    none (Memory m) reason h = reason

words : (e : Term) → SpellsTerm [] e → ⊥
words e h = elim (term_inv [] e h) [ inl (o, is) ↦ cc | inr (v, u, o, x, is, k) ↦ cc ]

pub stop_spells_no_term : (profile : Profile) (text : List ℕ) (f : ParseFault)
    → IsStopBy SpellsTerm profile text f
    → (f ≡ Memory alloc_error) ⊎ ((e : Term) → SpellsTermWithinBy profile text e → ⊥)
stop_spells_no_term profile text =
    stop_spells SpellsTerm (SpellsTermWithinBy profile text) profile text
    (λ e h. (h.0, h.1.0, h.1.1, h.1.2)) words
    (no_reason profile text)

pub faults_spell_no_term : (profile : Profile) (text : List ℕ) (r : Result Term ParseFault)
    → IfErr r (IsStopBy SpellsTerm profile text)
    → IfErr r (λ f. (f ≡ Memory alloc_error) ⊎ ((e : Term) → SpellsTermWithinBy profile text e → ⊥))
faults_spell_no_term profile text =
    faults_spell SpellsTerm (SpellsTermWithinBy profile text) profile text
    (λ e h. (h.0, h.1.0, h.1.1, h.1.2)) words
    (no_reason profile text)

-- terms that the code takes as equal are the same
pub equal_terms : (a b : Term) → ghosts.eq a b ≡ true → a ≡ b
equal_terms a b is = search rules
