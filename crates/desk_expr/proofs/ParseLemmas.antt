-- A whole text: what its tokens spell, where it stops, and that no other tree is spelled.
use Rattle.std.proofs.Common.{◌≡◌, ◌∙◌, ◌⊎◌, inl, inr, ℕ, suc, ◌≤◌, true, false, List, [], ◌∷◌}
use Rattle.std.proofs.Common.{◌++◌, length, take, sym, subst, ap, refl, append_assoc, arith, Some}
use Rattle.std.proofs.Common.{Result, Ok, Err}
use Rattle.std.specs.Prelude.{map, IfOk, IfErr, alloc_error}
use Rattle.std.proofs.lemmas.List.{map-append, append-nil}
use Rattle.desk_base.specs.declared.profile.Profile.{Profile}
use Rattle.desk_base.specs.Limits as limit
use Rattle.desk_tokens.specs.declared.cut.TokenCuts.{TokenCuts}
use Rattle.desk_expr.specs.declared.fault.ParseFault.{ParseFault}
use Rattle.desk_expr.specs.declared.fault.ParseFault.TheVariants.{Empty, BadToken, Unexpected}
use Rattle.desk_expr.specs.declared.fault.ParseFault.TheVariants.{Unclosed, TooDeep, TooLong}
use Rattle.desk_expr.specs.declared.fault.ParseFault.TheVariants.{TooManyTerms, Memory}
use Rattle.desk_expr.specs.declared.progress.Progress.{Progress}
use Rattle.desk_tokens.specs.declared.token.Token.{Token}
use Rattle.desk_expr.specs.Tree.{Tree}
use Rattle.desk_tokens.specs.Tokens.{Lexeme, lexeme, AreTokensBy}
use Rattle.desk_tokens.specs.Given.{TokenGiven}
use Rattle.desk_expr.specs.Grammar.{Symbol, bad, SpellsTree}
use Rattle.desk_expr.specs.Spelling.{symbol, symbol_of, symbols, AllFronts, KeepsLimits, Begins}
use Rattle.desk_expr.specs.Spelling.{Stands, Reason, EndReason, StopsAtToken, StopsAtEnd, IsStopBy}
use Rattle.desk_expr.specs.Spelling.{SpellsBy, SpellsWithinBy}
use Rattle.desk_expr.specs.Progress.{StopsAfter, EndsAfter, HasRead, is_started}
use Rattle.desk_tokens.proofs.Lexing.{tokens_exist, same_tokens}
use Rattle.desk_expr.proofs.Unambiguous.{one_tree}
use Rattle.desk_expr.proofs.Balance.{no_bad, something}

-- one text spells one tree
pub spells_once : (profile : Profile) (text : List ℕ) (a b : Tree) → SpellsBy profile text a
    → SpellsBy profile text b → a ≡ b
spells_once profile text a b (ts, are, h) (us, are', k) =
    let same : us ≡ ts = same_tokens profile 0 text us ts are' are in
    one_tree (symbols ts) a b h (subst (λ l. SpellsTree (symbols l) b) same k)

pub one_within : (profile : Profile) (text : List ℕ) (a b : Tree) → SpellsWithinBy profile text a
    → SpellsWithinBy profile text b → a ≡ b
one_within profile text a b (short, ts, are, h, keeps) (short', us, are', k, keeps') =
    spells_once profile text a b (ts, are, h) (us, are', k)

-- ---- the tokens so far

-- the tokens of the rest, whatever they are, complete those so far
abbrev pub SoFar : Profile → List ℕ → List Token → TokenCuts → Type 0
SoFar profile text yielded cuts = (ts : List Lexeme)
    → AreTokensBy cuts.profile cuts.place cuts.rest.now ts
    → AreTokensBy profile 0 text (map lexeme yielded ++ ts)

pub so_far_none : (profile : Profile) (text : List ℕ) (cuts fresh : TokenCuts) → cuts ≡ fresh
    → fresh.rest.now ≡ text → fresh.place ≡ 0 → fresh.profile ≡ profile → SoFar profile text [] cuts
so_far_none profile text cuts fresh same rest place by ts are =
    let moved : AreTokensBy fresh.profile fresh.place fresh.rest.now ts =
    subst (λ (c : TokenCuts). AreTokensBy c.profile c.place c.rest.now ts) same are in
    subst (λ o. AreTokensBy o 0 text ts) by
    (subst (λ p. AreTokensBy fresh.profile p text ts) place
    (subst (λ r. AreTokensBy fresh.profile fresh.place r ts) rest moved))

pub so_far_push : (profile : Profile) (text : List ℕ) (yielded : List Token) (t : Token)
    (cuts new : TokenCuts) → SoFar profile text yielded cuts → TokenGiven cuts (Some t) new
    → SoFar profile text (yielded ++ t ∷ []) new
so_far_push profile text yielded t cuts new so_far given ts after =
    let is : map lexeme (yielded ++ t ∷ []) ++ ts ≡ map lexeme yielded ++ lexeme t ∷ ts =
    ap (λ l. l ++ ts) (map-append lexeme yielded (t ∷ []))
    ∙ append_assoc (map lexeme yielded) (lexeme t ∷ []) ts in
    let moved : AreTokensBy cuts.profile t.end new.rest.now ts =
    subst (λ o. AreTokensBy o t.end new.rest.now ts) given.2
    (subst (λ p. AreTokensBy new.profile p new.rest.now ts) given.1 after) in
    subst (AreTokensBy profile 0 text) (sym is)
    (so_far (lexeme t ∷ ts) (new.rest.now, given.0, moved))

pub lexemes_push : (yielded : List Token) (t : Token)
    → map lexeme (yielded ++ t ∷ []) ≡ map lexeme yielded ++ lexeme t ∷ []
lexemes_push yielded t = map-append lexeme yielded (t ∷ [])

-- those so far are all if none comes after them
pub so_far_all : (profile : Profile) (text : List ℕ) (yielded : List Token) (cuts : TokenCuts)
    → SoFar profile text yielded cuts → AreTokensBy cuts.profile cuts.place cuts.rest.now []
    → AreTokensBy profile 0 text (map lexeme yielded)
so_far_all profile text yielded cuts so_far none =
    subst (AreTokensBy profile 0 text) (append-nil (map lexeme yielded)) (so_far [] none)

-- ---- stops

module _ {A : Type 0} (Spells : List Symbol → A → Type 0) (profile : Profile) (text : List ℕ)
    (yielded : List Token) (t : Token) (cuts new : TokenCuts) where
  is_stop : (f : ParseFault) → length text ≤ limit.expression_bytes
      → StopsAtToken Spells profile text f → Reason Spells (map lexeme yielded) (lexeme t) f
      → IsStopBy Spells profile text f
  is_stop (Empty p) short at reason = absurd reason
  is_stop (BadToken p) short at reason = (short, at)
  is_stop (Unexpected p) short at reason = (short, inl at)
  is_stop (Unclosed p) short at reason = absurd reason
  is_stop (TooDeep p) short at reason = (short, at)
  is_stop (TooLong p) short at reason = absurd reason
  is_stop (TooManyTerms p) short at reason = (short, at)
  is_stop (Memory e) short at reason = tt

  pub stop_by_reason : (f : ParseFault) → length text ≤ limit.expression_bytes
      → SoFar profile text yielded cuts → TokenGiven cuts (Some t) new
      → AllFronts (Stands Spells) (map lexeme yielded)
      → Reason Spells (map lexeme yielded) (lexeme t) f → IsStopBy Spells profile text f
  stop_by_reason f short so_far given stands reason =
      let behind = tokens_exist cuts.profile t.end new.rest.now in
      is_stop f short (
        map lexeme yielded,
        lexeme t,
        behind.0,
        so_far (lexeme t ∷ behind.0) (new.rest.now, given.0, behind.1),
        stands,
        reason,
      ) reason

pub stop_at_token : (profile : Profile) (text : List ℕ) (yielded : List Token) (t : Token)
    (cuts new : TokenCuts) (f : ParseFault) → length text ≤ limit.expression_bytes
    → SoFar profile text yielded cuts → TokenGiven cuts (Some t) new
    → AllFronts (Stands SpellsTree) (map lexeme yielded)
    → StopsAfter (map lexeme yielded) (lexeme t) f → IsStopBy SpellsTree profile text f
stop_at_token profile text yielded t cuts new (Memory e) short so_far given stands h = tt
stop_at_token profile text yielded t cuts new f short so_far given stands h = stop_by_reason
    SpellsTree profile text yielded t cuts new f short so_far given stands h

at_end : (profile : Profile) (text : List ℕ) (ts : List Lexeme) (f : ParseFault)
    → AreTokensBy profile 0 text ts → AllFronts (Stands SpellsTree) ts → is_started ts ≡ true
    → EndReason SpellsTree (length text) ts f → StopsAtEnd SpellsTree profile text f
at_end profile text [] f are stands started reason = absurd (cc)
at_end profile text (t ∷ ts) f are stands started reason = (t, ts, are, stands, reason)

nothing_started : (profile : Profile) (text : List ℕ) (ts : List Lexeme)
    → AreTokensBy profile 0 text ts → is_started ts ≡ false → AreTokensBy profile 0 text []
nothing_started profile text [] are is = are
nothing_started profile text (t ∷ ts) are is = absurd (cc)

pub stop_at_end : (profile : Profile) (text : List ℕ) (ts : List Lexeme) (f : ParseFault)
    → length text ≤ limit.expression_bytes → AreTokensBy profile 0 text ts
    → AllFronts (Stands SpellsTree) ts → EndsAfter ts (length text) f
    → IsStopBy SpellsTree profile text f
stop_at_end profile text ts (Empty p) short are stands h = (
  short,
  nothing_started profile text ts are h.0,
  h.1,
)
stop_at_end profile text ts (BadToken p) short are stands h = absurd h
stop_at_end profile text ts (Unexpected p) short are stands h = (
  short,
  inr (at_end profile text ts (Unexpected p) are stands h.0 h.1),
)
stop_at_end profile text ts (Unclosed p) short are stands h = (
  short,
  at_end profile text ts (Unclosed p) are stands h.0 h.1,
)
stop_at_end profile text ts (TooDeep p) short are stands h = absurd h
stop_at_end profile text ts (TooLong p) short are stands h = absurd h
stop_at_end profile text ts (TooManyTerms p) short are stands h = absurd h
stop_at_end profile text ts (Memory e) short are stands h = tt

-- ---- a text that stops spells nothing within the limits

pub front_of : (front : List Lexeme) (t : Lexeme) (behind : List Lexeme)
    → take (suc (length front)) (front ++ t ∷ behind) ≡ front ++ t ∷ []
front_of [] t behind = refl
front_of (u ∷ front) t behind = ap (λ l. u ∷ l) (front_of front t behind)

pub symbols_behind : (front : List Lexeme) (t : Lexeme) (behind : List Lexeme)
    → symbols (front ++ t ∷ behind) ≡ symbols front ++ symbol_of t ∷ symbols behind
symbols_behind front t behind = map-append symbol_of front (t ∷ behind)

pub symbols_split : (front : List Lexeme) (t : Lexeme) (behind : List Lexeme)
    → symbols (front ++ t ∷ behind) ≡ symbols (front ++ t ∷ []) ++ symbols behind
symbols_split front t behind =
    ap symbols (sym (append_assoc front (t ∷ []) behind))
    ∙ map-append symbol_of (front ++ t ∷ []) behind

begun : (front : List Lexeme) (t : Lexeme) (behind : List Lexeme) (e : Tree)
    → SpellsTree (symbols (front ++ t ∷ behind)) e → Begins SpellsTree (symbols (front ++ t ∷ []))
begun front t behind e h = (
  symbols behind,
  e,
  subst (λ l. SpellsTree l e) (symbols_split front t behind) h,
)

no_reason : (profile : Profile) (text : List ℕ) (f : ParseFault) (e : Tree)
    → StopsAtToken SpellsTree profile text f → SpellsWithinBy profile text e → ⊥
no_reason profile text f e (front, t, behind, are, stands, reason) (short, us, are', h, keeps) =
    let same : us ≡ front ++ t ∷ behind =
    same_tokens profile 0 text us (front ++ t ∷ behind) are' are in
    none f reason (subst (λ l. SpellsTree (symbols l) e) same h)
    (subst KeepsLimits (front_of front t behind)
    (subst (AllFronts KeepsLimits) same keeps (suc (length front))))
  where
    none : (f : ParseFault) → Reason SpellsTree front t f
        → SpellsTree (symbols (front ++ t ∷ behind)) e → KeepsLimits (front ++ t ∷ []) → ⊥
    none (Empty p) reason h keeps = reason
    none (BadToken p) reason h keeps =
        let is : symbol_of t ≡ bad = ap (λ k. symbol k t.text) reason.0 in
        no_bad (symbols front) (symbols behind) e
        (subst (λ s. SpellsTree (symbols front ++ s ∷ symbols behind) e) is
        (subst (λ l. SpellsTree l e) (symbols_behind front t behind) h))
    none (Unexpected p) reason h keeps = reason.1 (begun front t behind e h)
    none (Unclosed p) reason h keeps = reason
    none (TooDeep p) reason h keeps = let few = keeps.depth in absurd (omega (arith, few, reason.1))
    none (TooLong p) reason h keeps = reason
    none (TooManyTerms p) reason h keeps = let few = keeps.terms in
        absurd (omega (arith, few, reason.2))
    none (Memory m) reason h keeps = reason

-- if tokens stop at the end of the text, they spell nothing
pub end_spells_nothing : {A : Type 0} (Spells : List Symbol → A → Type 0) (end : ℕ)
    (ts : List Lexeme) (a : A) (f : ParseFault) → EndReason Spells end ts f → Spells (symbols ts) a
    → ⊥
end_spells_nothing Spells end ts a (Empty p) reason h = reason
end_spells_nothing Spells end ts a (BadToken p) reason h = reason
end_spells_nothing Spells end ts a (Unexpected p) reason h = reason.0
    (0, a, subst (λ l. Spells l a) (sym (append-nil (symbols ts))) h)
end_spells_nothing Spells end ts a (Unclosed p) reason h = reason.1 a h
end_spells_nothing Spells end ts a (TooDeep p) reason h = reason
end_spells_nothing Spells end ts a (TooLong p) reason h = reason
end_spells_nothing Spells end ts a (TooManyTerms p) reason h = reason
end_spells_nothing Spells end ts a (Memory m) reason h = reason

-- a text that stops spells nothing, in any language whose words have symbols, if a stop at a token
-- says so
module _ {A : Type 0} (Spells : List Symbol → A → Type 0) (Within : A → Type 0) (profile : Profile)
    (text : List ℕ)
    (spelled : (a : A) → Within a → (length text ≤ limit.expression_bytes)
    × (ts : List Lexeme) × AreTokensBy profile 0 text ts × Spells (symbols ts) a)
    (words : (a : A) → Spells [] a → ⊥)
    (no_reason : (f : ParseFault) (a : A) → StopsAtToken Spells profile text f → Within a → ⊥) where
  spelled_by_tokens : (a : A) (ts : List Lexeme) → AreTokensBy profile 0 text ts → Within a
      → Spells (symbols ts) a
  spelled_by_tokens a ts are within =
      let it = spelled a within in
      subst (λ l. Spells (symbols l) a) (same_tokens profile 0 text it.1 ts it.2 are) it.3

  no_end : (f : ParseFault) (a : A) → StopsAtEnd Spells profile text f → Within a → ⊥
  no_end f a (t, behind, are, stands, reason) within =
      end_spells_nothing Spells (length text) (t ∷ behind) a f reason
      (spelled_by_tokens a (t ∷ behind) are within)

  pub stop_spells : (f : ParseFault) → IsStopBy Spells profile text f
      → (f ≡ Memory alloc_error) ⊎ ((a : A) → Within a → ⊥)
  stop_spells (Empty p) h = inr (λ a within. words a (spelled_by_tokens a [] h.1 within))
  stop_spells (BadToken p) h = inr (λ a within. no_reason (BadToken p) a h.1 within)
  stop_spells (Unexpected p) h =
      inr (λ a within. elim h.1 [
        | inl token ↦ no_reason (Unexpected p) a token within
        | inr end ↦ no_end (Unexpected p) a end within
      ])
  stop_spells (Unclosed p) h = inr (λ a within. no_end (Unclosed p) a h.1 within)
  stop_spells (TooDeep p) h = inr (λ a within. no_reason (TooDeep p) a h.1 within)
  stop_spells (TooLong p) h =
      inr (λ a within. let short = (spelled a within).0 in absurd (omega (arith, h.0, short)))
  stop_spells (TooManyTerms p) h = inr (λ a within. no_reason (TooManyTerms p) a h.1 within)
  stop_spells (Memory m) h = inl refl

  pub faults_spell : {R : Type 0} (r : Result R ParseFault) → IfErr r (IsStopBy Spells profile text)
      → IfErr r (λ f. (f ≡ Memory alloc_error) ⊎ ((a : A) → Within a → ⊥))
  faults_spell (Ok e) h = h
  faults_spell (Err f) h = stop_spells f h

pub stop_spells_nothing : (profile : Profile) (text : List ℕ) (f : ParseFault)
    → IsStopBy SpellsTree profile text f
    → (f ≡ Memory alloc_error) ⊎ ((e : Tree) → SpellsWithinBy profile text e → ⊥)
stop_spells_nothing profile text =
    stop_spells SpellsTree (SpellsWithinBy profile text) profile text (λ e h. (h.0, h.1, h.2, h.3))
    something
    (no_reason profile text)

pub faults_spell_nothing : (profile : Profile) (text : List ℕ) (r : Result Tree ParseFault)
    → IfErr r (IsStopBy SpellsTree profile text)
    → IfErr r (λ f. (f ≡ Memory alloc_error) ⊎ ((e : Tree) → SpellsWithinBy profile text e → ⊥))
faults_spell_nothing profile text =
    faults_spell SpellsTree (SpellsWithinBy profile text) profile text (λ e h. (h.0, h.1, h.2, h.3))
    something
    (no_reason profile text)

-- ---- the end of the loop

module _ (profile : Profile) (text : List ℕ) (ts : List Lexeme)
    (short : length text ≤ limit.expression_bytes) (are : AreTokensBy profile 0 text ts)
    (stands : AllFronts (Stands SpellsTree) ts) where
  keeps_limits : AllFronts KeepsLimits ts
  keeps_limits n = record { depth = (stands n).depth; terms = (stands n).terms }

  pub spelled_at_end : (r : Result Tree ParseFault) → IfOk r (λ e. SpellsTree (symbols ts) e)
      → IfOk r (SpellsWithinBy profile text)
  spelled_at_end (Ok e) h = (short, ts, are, h, keeps_limits)
  spelled_at_end (Err f) h = h

  pub stopped_at_end : (r : Result Tree ParseFault) → IfErr r (EndsAfter ts (length text))
      → IfErr r (IsStopBy SpellsTree profile text)
  stopped_at_end (Ok e) h = h
  stopped_at_end (Err f) h = stop_at_end profile text ts f short are stands h

-- what holds for all fronts that may have been read, for the one that was
pub spelled_by : (ts : List Lexeme) (m : Progress) (r : Result Tree ParseFault)
    → IfOk r (λ e. (front : List Lexeme) → HasRead front m → SpellsTree (symbols front) e)
    → HasRead ts m → IfOk r (λ e. SpellsTree (symbols ts) e)
spelled_by ts m (Ok e) h read = h ts read
spelled_by ts m (Err f) h read = h

pub ended_by : (ts : List Lexeme) (m : Progress) (end : ℕ) (r : Result Tree ParseFault)
    → IfErr r (λ f. (front : List Lexeme) → HasRead front m → EndsAfter front end f) → HasRead ts m
    → IfErr r (EndsAfter ts end)
ended_by ts m end (Ok e) h read = h
ended_by ts m end (Err f) h read = h ts read
