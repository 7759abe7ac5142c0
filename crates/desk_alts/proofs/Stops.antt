-- A text that spells nothing has a stop, whatever language of symbols is looked for in it.
use Rattle.std.proofs.Common.{◌≡◌, ◌⊎◌, inl, inr, ℕ, zero, suc, ◌-◌, ◌<◌, ◌≤◌, List, [], ◌∷◌, ◌++◌}
use Rattle.std.proofs.Common.{length, sym, subst, refl, append_assoc, append-nil, arith, Some}
use Rattle.std.specs.Prelude.{slice_get}
use Rattle.std.proofs.lemmas.List.{take_all}
use Rattle.desk_base.specs.Limits as limit
use Rattle.desk_base.specs.declared.profile.Profile.{Profile}
use Rattle.desk_base.proofs.Lists.{item_at}
use Rattle.desk_expr.specs.declared.fault.ParseFault.{ParseFault}
use Rattle.desk_expr.specs.declared.fault.ParseFault.TheVariants.{Empty, BadToken, Unexpected}
use Rattle.desk_expr.specs.declared.fault.ParseFault.TheVariants.{Unclosed, TooDeep, TooLong}
use Rattle.desk_expr.specs.declared.fault.ParseFault.TheVariants.{TooManyTerms, Memory}
use Rattle.desk_tokens.specs.declared.token.Kind.{Kind}
use Rattle.desk_tokens.specs.declared.token.Kind.TheVariants as kind
use Rattle.desk_expr.specs.Faults.{fault_number}
use Rattle.desk_tokens.specs.Tokens.{Lexeme, AreTokensBy}
use Rattle.desk_expr.specs.Grammar.{Symbol}
use Rattle.desk_expr.specs.Spelling.{symbols, still_open, operand_words, closings, AllFronts}
use Rattle.desk_expr.specs.Spelling.{Begins, Stands, Reason, IsStopBy}
use Rattle.desk_tokens.proofs.Lexing.{tokens_exist}
use Rattle.desk_expr.proofs.ProgressLemmas.{fronts_push}
use Rattle.desk_alts.proofs.Decide.{Decided, SomeOrNone, decided_le, first_below}

bad_or_not : (k : Kind) → Decided (k ≡ kind.Bad)
bad_or_not kind.Bad = inl refl
bad_or_not k = inr (λ e. cc)

module _ {A : Type 0} (Language : List Symbol → A → Type 0)
    (begins_or_not : (ss : List Symbol) → Decided (Begins Language ss))
    (spelled_or_not : (ss : List Symbol) → SomeOrNone (Language ss))
    (few_close : (ts : List Lexeme) (n : ℕ) (a : A) → Language (symbols ts ++ closings n) a
    → n ≤ length (still_open ts)) (nothing_begins : Begins Language []) where
  -- a token is allowed after a front, or there is a reason against it
  stands_or_stops : (front : List Lexeme) (t : Lexeme)
      → Stands Language (front ++ t ∷ [])
      ⊎ ((f : ParseFault) × Reason Language front t f × (0 < fault_number f))
  stands_or_stops front t =
      elim (bad_or_not t.kind) [
        | inl is ↦ inr (BadToken t.start, (is, refl), omega arith)
        | inr good ↦ elim (begins_or_not (symbols (front ++ t ∷ []))) [
          | inr none ↦ inr (Unexpected t.start, (good, none, refl), omega arith)
          | inl begins ↦ elim (decided_le (length (still_open (front ++ t ∷ [])))
              limit.open_parentheses) [
                | inr deep ↦ inr (TooDeep t.start, (begins, omega (arith, deep), refl), omega arith)
                | inl depth ↦ elim (decided_le (operand_words (symbols (front ++ t ∷ [])))
                    limit.expression_terms) [
                      | inr many ↦ inr (
                        TooManyTerms t.start,
                        (begins, depth, omega (arith, many), refl),
                        omega arith,
                      )
                      | inl terms ↦ inl (record { begins = begins; depth = depth; terms = terms })
                    ]
              ]
        ]
      ]

  -- the first token that can't be there
  pub record FirstStop (ts : List Lexeme) : Type 0 where
    pub fault : ParseFault
    pub front : List Lexeme
    pub token : Lexeme
    pub behind : List Lexeme
    pub cut : ts ≡ front ++ token ∷ behind
    pub stands : AllFronts (Stands Language) front
    pub reason : Reason Language front token fault
    pub told : 0 < fault_number fault

  scan : (front rest : List Lexeme) → AllFronts (Stands Language) front
      → AllFronts (Stands Language) (front ++ rest) ⊎ FirstStop (front ++ rest)
  scan front [] stands = inl (subst (AllFronts (Stands Language)) (sym (append-nil front)) stands)
  scan front (t ∷ rest) stands =
      elim (stands_or_stops front t) [
        | inr stop ↦ inr (record {
          fault = stop.0;
          front = front;
          token = t;
          behind = rest;
          cut = refl;
          stands = stands;
          reason = stop.1;
          told = stop.2;
        })
        | inl here ↦ elim (scan (front ++ t ∷ []) rest
            (fronts_push (Stands Language) front t stands here)) [
              | inl all ↦ inl (subst (AllFronts (Stands Language))
                  (append_assoc front (t ∷ []) rest)
                  all)
              | inr stop ↦ inr (subst FirstStop (append_assoc front (t ∷ []) rest) stop)
            ]
      ]

  none_stand : AllFronts (Stands Language) []
  none_stand n = subst (Stands Language) (sym (take_all n [] (omega arith)))
      (record { begins = nothing_begins; depth = omega arith; terms = omega arith })

  -- a text of some tokens
  module _ (profile : Profile) (text : List ℕ) (short : length text ≤ limit.expression_bytes) where
    abbrev Stop : Type 0
    Stop = (f : ParseFault) × IsStopBy Language profile text f × (0 < fault_number f)

    at_token : (f : ParseFault) → (front : List Lexeme) (t : Lexeme) (behind : List Lexeme)
        → AreTokensBy profile 0 text (front ++ t ∷ behind) → AllFronts (Stands Language) front
        → Reason Language front t f → 0 < fault_number f → Stop
    at_token (BadToken p) front t behind are stands reason told = (
      BadToken p,
      (short, (front, t, behind, are, stands, reason)),
      told,
    )
    at_token (Unexpected p) front t behind are stands reason told = (
      Unexpected p,
      (short, inl (front, t, behind, are, stands, reason)),
      told,
    )
    at_token (TooDeep p) front t behind are stands reason told = (
      TooDeep p,
      (short, (front, t, behind, are, stands, reason)),
      told,
    )
    at_token (TooManyTerms p) front t behind are stands reason told = (
      TooManyTerms p,
      (short, (front, t, behind, are, stands, reason)),
      told,
    )
    at_token (Empty p) front t behind are stands reason told = absurd reason
    at_token (Unclosed p) front t behind are stands reason told = absurd reason
    at_token (TooLong p) front t behind are stands reason told = absurd reason
    at_token (Memory m) front t behind are stands reason told = absurd reason

    known : (ts : List Lexeme) (n : ℕ) → Decided ((a : A) × Language (symbols ts ++ closings n) a)
    known ts n = elim (spelled_or_not (symbols ts ++ closings n))
        [ inl a ↦ inl (a.0, a.1) | inr none ↦ inr (λ a. none a.0 a.1) ]

    last_open : (ts : List Lexeme) (n : ℕ) (a : A) → Language (symbols ts ++ closings n) a
        → ((a : A) → Language (symbols ts) a → ⊥)
        → (p : ℕ) × (slice_get (still_open ts) (length (still_open ts) - 1) ≡ Some p)
    last_open ts zero a h none = absurd (none a
        (subst (λ l. Language l a) (append-nil (symbols ts)) h))
    last_open ts (suc n) a h none = let few = few_close ts (suc n) a h in
        item_at (still_open ts) (length (still_open ts) - 1) (omega arith)

    at_end : (t : Lexeme) (behind : List Lexeme) → AreTokensBy profile 0 text (t ∷ behind)
        → AllFronts (Stands Language) (t ∷ behind)
        → ((a : A) → Language (symbols (t ∷ behind)) a → ⊥) → Stop
    at_end t behind are stands none =
        let ts = t ∷ behind in
        elim (first_below (λ n. (a : A) × Language (symbols ts ++ closings n) a) (known ts)
        (suc (length (still_open ts)))) [
          | inl found ↦
              let completes = found.1.0 in
              let place = last_open ts found.0 completes.0 completes.1 none in
              (Unclosed place.0, (short, (t, behind, are, stands, ((found.0, completes.0, completes.1), none, place.1))), omega arith)
          | inr never ↦ (
            Unexpected (length text),
            (
              short,
              inr (
                t,
                behind,
                are,
                stands,
                (
                  (λ (n, a, h). let few = few_close ts n a h in
                      never n (omega arith) (a, h)),
                  refl,
                ),
              ),
            ),
            omega arith,
          )
        ]

    ends : (ts : List Lexeme) → AreTokensBy profile 0 text ts → AllFronts (Stands Language) ts
        → ((a : A) → Language (symbols ts) a → ⊥) → Stop
    ends [] are stands none = (Empty 0, (short, are, refl), omega arith)
    ends (t ∷ behind) are stands none = at_end t behind are stands none

    -- the tokens spell something within the limits, or the text stops
    pub spelled_or_stops : ((ts : List Lexeme) × AreTokensBy profile 0 text ts
        × AllFronts (Stands Language) ts × (a : A) × Language (symbols ts) a) ⊎ Stop
    spelled_or_stops =
        let tokens = tokens_exist profile 0 text in
        elim (scan [] tokens.0 none_stand) [
          | inr stop ↦ inr (at_token stop.fault stop.front stop.token stop.behind
              (subst (AreTokensBy profile 0 text) stop.cut tokens.1) stop.stands stop.reason
              stop.told)
          | inl stands ↦ elim (spelled_or_not (symbols tokens.0)) [
            | inl a ↦ inl (tokens.0, tokens.1, stands, a.0, a.1)
            | inr none ↦ inr (ends tokens.0 tokens.1 stands none)
          ]
        ]
