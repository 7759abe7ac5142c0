-- A text has only one stop, whatever language of symbols is looked for in it.
use Rattle.std.proofs.Common.{◌≡◌, ◌∙◌, ◌⊎◌, inl, inr, ℕ, suc, ◌<◌, ◌≤◌, List, [], ◌∷◌, ◌++◌}
use Rattle.std.proofs.Common.{length, unwrap_or, sym, subst, ap, arith}
use Rattle.desk_base.specs.Limits as limit
use Rattle.desk_expr.specs.declared.fault.ParseFault.{ParseFault}
use Rattle.desk_expr.specs.declared.fault.ParseFault.TheVariants.{Empty, BadToken, Unexpected}
use Rattle.desk_expr.specs.declared.fault.ParseFault.TheVariants.{Unclosed, TooDeep, TooLong}
use Rattle.desk_expr.specs.declared.fault.ParseFault.TheVariants.{TooManyTerms, Memory}
use Rattle.desk_tokens.specs.declared.token.Kind.TheVariants as kind
use Rattle.desk_expr.specs.Faults.{fault_number}
use Rattle.desk_base.specs.declared.profile.Profile.{Profile}
use Rattle.desk_tokens.specs.Tokens.{Lexeme, AreTokensBy}
use Rattle.desk_expr.specs.Grammar.{Symbol}
use Rattle.desk_expr.specs.Spelling.{symbols, AllFronts, Begins, Stands, Reason, EndReason}
use Rattle.desk_expr.specs.Spelling.{StopsAtToken, StopsAtEnd, IsStopBy}
use Rattle.desk_expr.proofs.ParseLemmas.{front_of}
use Rattle.desk_tokens.proofs.Lexing.{same_tokens}
use Rattle.desk_alts.proofs.Splits.{Cuts, two_cuts}

-- ---- a token

module _ {A : Type 0} (Language : List Symbol → A → Type 0)
    (no_bad_begins : (front : List Lexeme) (t : Lexeme) → t.kind ≡ kind.Bad
    → Begins Language (symbols (front ++ t ∷ [])) → ⊥) where
  -- for a token that is allowed there is no reason against it
  stands_or_stops : (front : List Lexeme) (t : Lexeme) (f : ParseFault)
      → Stands Language (front ++ t ∷ []) → Reason Language front t f → ⊥
  stands_or_stops front t (Empty p) stands reason = reason
  stands_or_stops front t (BadToken p) stands reason = no_bad_begins front t reason.0 stands.begins
  stands_or_stops front t (Unexpected p) stands reason = reason.1 stands.begins
  stands_or_stops front t (Unclosed p) stands reason = reason
  stands_or_stops front t (TooDeep p) stands reason = let few = stands.depth in
      absurd (omega (arith, few, reason.1))
  stands_or_stops front t (TooLong p) stands reason = reason
  stands_or_stops front t (TooManyTerms p) stands reason = let few = stands.terms in
      absurd (omega (arith, few, reason.2))
  stands_or_stops front t (Memory m) stands reason = reason

  stands_within : (front : List Lexeme) (t : Lexeme) (more : List Lexeme) (f : ParseFault)
      → AllFronts (Stands Language) (front ++ t ∷ more) → Reason Language front t f → ⊥
  stands_within front t more f stands reason =
      stands_or_stops front t f (subst (Stands Language) (front_of front t more)
      (stands (suc (length front)))) reason

  module _ (front : List Lexeme) (t : Lexeme) where
    like_bad : (p : ℕ) (g : ParseFault) → Reason Language front t (BadToken p)
        → Reason Language front t g → BadToken p ≡ g
    like_bad p (Empty q) h k = absurd k
    like_bad p (BadToken q) h k = ap BadToken (h.1 ∙ sym k.1)
    like_bad p (Unexpected q) h k = absurd (k.0 h.0)
    like_bad p (Unclosed q) h k = absurd k
    like_bad p (TooDeep q) h k = absurd (no_bad_begins front t h.0 k.0)
    like_bad p (TooLong q) h k = absurd k
    like_bad p (TooManyTerms q) h k = absurd (no_bad_begins front t h.0 k.0)
    like_bad p (Memory m) h k = absurd k

    like_unexpected : (p : ℕ) (g : ParseFault) → Reason Language front t (Unexpected p)
        → Reason Language front t g → Unexpected p ≡ g
    like_unexpected p (Empty q) h k = absurd k
    like_unexpected p (BadToken q) h k = absurd (h.0 k.0)
    like_unexpected p (Unexpected q) h k = ap Unexpected (h.2 ∙ sym k.2)
    like_unexpected p (Unclosed q) h k = absurd k
    like_unexpected p (TooDeep q) h k = absurd (h.1 k.0)
    like_unexpected p (TooLong q) h k = absurd k
    like_unexpected p (TooManyTerms q) h k = absurd (h.1 k.0)
    like_unexpected p (Memory m) h k = absurd k

    like_deep : (p : ℕ) (g : ParseFault) → Reason Language front t (TooDeep p)
        → Reason Language front t g → TooDeep p ≡ g
    like_deep p (Empty q) h k = absurd k
    like_deep p (BadToken q) h k = absurd (no_bad_begins front t k.0 h.0)
    like_deep p (Unexpected q) h k = absurd (k.1 h.0)
    like_deep p (Unclosed q) h k = absurd k
    like_deep p (TooDeep q) h k = ap TooDeep (h.2 ∙ sym k.2)
    like_deep p (TooLong q) h k = absurd k
    like_deep p (TooManyTerms q) h k = absurd (omega (arith, h.1, k.1))
    like_deep p (Memory m) h k = absurd k

    like_many : (p : ℕ) (g : ParseFault) → Reason Language front t (TooManyTerms p)
        → Reason Language front t g → TooManyTerms p ≡ g
    like_many p (Empty q) h k = absurd k
    like_many p (BadToken q) h k = absurd (no_bad_begins front t k.0 h.0)
    like_many p (Unexpected q) h k = absurd (k.1 h.0)
    like_many p (Unclosed q) h k = absurd k
    like_many p (TooDeep q) h k = absurd (omega (arith, h.1, k.1))
    like_many p (TooLong q) h k = absurd k
    like_many p (TooManyTerms q) h k = ap TooManyTerms (h.3 ∙ sym k.3)
    like_many p (Memory m) h k = absurd k

    one_reason : (f g : ParseFault) → Reason Language front t f → Reason Language front t g → f ≡ g
    one_reason (Empty p) g h k = absurd h
    one_reason (BadToken p) g h k = like_bad p g h k
    one_reason (Unexpected p) g h k = like_unexpected p g h k
    one_reason (Unclosed p) g h k = absurd h
    one_reason (TooDeep p) g h k = like_deep p g h k
    one_reason (TooLong p) g h k = absurd h
    one_reason (TooManyTerms p) g h k = like_many p g h k
    one_reason (Memory m) g h k = absurd h

  -- ---- the end

  module _ (end : ℕ) (ts : List Lexeme) where
    like_unclosed : (p : ℕ) (g : ParseFault) → EndReason Language end ts (Unclosed p)
        → EndReason Language end ts g → Unclosed p ≡ g
    like_unclosed p (Empty q) h k = absurd k
    like_unclosed p (BadToken q) h k = absurd k
    like_unclosed p (Unexpected q) h k = absurd (k.0 h.0)
    like_unclosed p (Unclosed q) h k = ap Unclosed (ap (λ o. unwrap_or o 0) (sym h.2 ∙ k.2))
    like_unclosed p (TooDeep q) h k = absurd k
    like_unclosed p (TooLong q) h k = absurd k
    like_unclosed p (TooManyTerms q) h k = absurd k
    like_unclosed p (Memory m) h k = absurd k

    like_unended : (p : ℕ) (g : ParseFault) → EndReason Language end ts (Unexpected p)
        → EndReason Language end ts g → Unexpected p ≡ g
    like_unended p (Empty q) h k = absurd k
    like_unended p (BadToken q) h k = absurd k
    like_unended p (Unexpected q) h k = ap Unexpected (h.1 ∙ sym k.1)
    like_unended p (Unclosed q) h k = absurd (h.0 k.0)
    like_unended p (TooDeep q) h k = absurd k
    like_unended p (TooLong q) h k = absurd k
    like_unended p (TooManyTerms q) h k = absurd k
    like_unended p (Memory m) h k = absurd k

    one_end : (f g : ParseFault) → EndReason Language end ts f → EndReason Language end ts g → f ≡ g
    one_end (Empty p) g h k = absurd h
    one_end (BadToken p) g h k = absurd h
    one_end (Unexpected p) g h k = like_unended p g h k
    one_end (Unclosed p) g h k = like_unclosed p g h k
    one_end (TooDeep p) g h k = absurd h
    one_end (TooLong p) g h k = absurd h
    one_end (TooManyTerms p) g h k = absurd h
    one_end (Memory m) g h k = absurd h

  -- ---- the whole text

  -- where a text stops that isn't too long
  abbrev Stops : Profile → List ℕ → ParseFault → Type 0
  Stops profile text f = (AreTokensBy profile 0 text [] × (f ≡ Empty 0))
      ⊎ (StopsAtToken Language profile text f ⊎ StopsAtEnd Language profile text f)

  -- where a text stops
  abbrev Stopped : Profile → List ℕ → ParseFault → Type 0
  Stopped profile text f = ((limit.expression_bytes < length text) × (f ≡ TooLong 0))
      ⊎ ((length text ≤ limit.expression_bytes) × Stops profile text f)

  stopped : (profile : Profile) (text : List ℕ) (f : ParseFault) → 0 < fault_number f
      → IsStopBy Language profile text f → Stopped profile text f
  stopped profile text (Empty p) told h = inr (h.0, inl (h.1, ap Empty h.2))
  stopped profile text (BadToken p) told h = inr (h.0, inr (inl h.1))
  stopped profile text (Unexpected p) told h = inr (h.0, inr h.1)
  stopped profile text (Unclosed p) told h = inr (h.0, inr (inr h.1))
  stopped profile text (TooDeep p) told h = inr (h.0, inr (inl h.1))
  stopped profile text (TooLong p) told h = inl (h.0, ap TooLong h.1)
  stopped profile text (TooManyTerms p) told h = inr (h.0, inr (inl h.1))
  stopped profile text (Memory m) told h = absurd (omega (arith, told))

  module _ (profile : Profile) (text : List ℕ) (f g : ParseFault) where
    token_and_token : StopsAtToken Language profile text f → StopsAtToken Language profile text g
        → f ≡ g
    token_and_token (front, t, behind, are, stands, reason) (
      other,
      u,
      rest,
      are',
      stands',
      reason',
    ) =
        go (two_cuts front t behind other u rest
        (same_tokens profile 0 text (front ++ t ∷ behind) (other ++ u ∷ rest) are are'))
      where
        go : Cuts front t other u → f ≡ g
        go (inl (same, one)) = one_reason other u f g
            (subst (λ x. Reason Language other x f) one
            (subst (λ l. Reason Language l t f) same reason)) reason'
        go (inr (inl (more, longer))) = absurd (stands_within front t more f
            (subst (AllFronts (Stands Language)) longer stands') reason)
        go (inr (inr (more, longer))) = absurd (stands_within other u more g
            (subst (AllFronts (Stands Language)) longer stands) reason')

    end_and_end : StopsAtEnd Language profile text f → StopsAtEnd Language profile text g → f ≡ g
    end_and_end (t, behind, are, stands, reason) (u, rest, are', stands', reason') =
        one_end (length text) (u ∷ rest) f g
        (subst (λ l. EndReason Language (length text) l f)
        (same_tokens profile 0 text (t ∷ behind) (u ∷ rest) are are') reason) reason'

  token_and_end : (profile : Profile) (text : List ℕ) (f g : ParseFault)
      → StopsAtToken Language profile text f → StopsAtEnd Language profile text g → ⊥
  token_and_end profile text f g (front, t, behind, are, stands, reason) (
    u,
    rest,
    are',
    stands',
    reason',
  ) =
      stands_within front t behind f
      (subst (AllFronts (Stands Language))
      (same_tokens profile 0 text (u ∷ rest) (front ++ t ∷ behind) are' are) stands') reason

  token_and_none : (profile : Profile) (text : List ℕ) (f : ParseFault)
      → StopsAtToken Language profile text f → AreTokensBy profile 0 text [] → ⊥
  token_and_none profile text f (front, t, behind, are, stands, reason) none =
      let same : [] ≡ front ++ t ∷ behind =
      same_tokens profile 0 text [] (front ++ t ∷ behind) none are in
      some front same
    where
      some : (front : List Lexeme) → [] ≡ front ++ t ∷ behind → ⊥
      some [] e = cc
      some (v ∷ vs) e = cc

  end_and_none : (profile : Profile) (text : List ℕ) (f : ParseFault)
      → StopsAtEnd Language profile text f → AreTokensBy profile 0 text [] → ⊥
  end_and_none profile text f (t, behind, are, stands, reason) none = let same : [] ≡ t ∷ behind =
      same_tokens profile 0 text [] (t ∷ behind) none are in cc

  one_place : (profile : Profile) (text : List ℕ) (f g : ParseFault) → Stops profile text f
      → Stops profile text g → f ≡ g
  one_place profile text f g (inl a) (inl b) = a.1 ∙ sym b.1
  one_place profile text f g (inl a) (inr (inl b)) = absurd (token_and_none profile text g b a.0)
  one_place profile text f g (inl a) (inr (inr b)) = absurd (end_and_none profile text g b a.0)
  one_place profile text f g (inr (inl a)) (inl b) = absurd (token_and_none profile text f a b.0)
  one_place profile text f g (inr (inl a)) (inr (inl b)) = token_and_token profile text f g a b
  one_place profile text f g (inr (inl a)) (inr (inr b)) = absurd (token_and_end profile text f g a
      b)
  one_place profile text f g (inr (inr a)) (inl b) = absurd (end_and_none profile text f a b.0)
  one_place profile text f g (inr (inr a)) (inr (inl b)) = absurd (token_and_end profile text g f b
      a)
  one_place profile text f g (inr (inr a)) (inr (inr b)) = end_and_end profile text f g a b

  one_of : (profile : Profile) (text : List ℕ) (f g : ParseFault) → Stopped profile text f
      → Stopped profile text g → f ≡ g
  one_of profile text f g (inl a) (inl b) = a.1 ∙ sym b.1
  one_of profile text f g (inl a) (inr b) = absurd (omega (arith, a.0, b.0))
  one_of profile text f g (inr a) (inl b) = absurd (omega (arith, a.0, b.0))
  one_of profile text f g (inr a) (inr b) = one_place profile text f g a.1 b.1

  -- by each profile a text has only one stop, apart from lack of memory
  pub one_stop : (profile : Profile) (text : List ℕ) (f g : ParseFault) → 0 < fault_number f
      → 0 < fault_number g → IsStopBy Language profile text f → IsStopBy Language profile text g
      → f ≡ g
  one_stop profile text f g told told' h k = one_of profile text f g (stopped profile text f told h)
      (stopped profile text g told' k)
