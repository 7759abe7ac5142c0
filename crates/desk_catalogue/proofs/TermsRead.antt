-- Each text spells one term or none, so there is a function that gives them.
use Rattle.std.proofs.Common.{◌≡◌, ◌∙◌, ◌⊎◌, inl, inr, ℕ, ◌≤◌, nat_le, true, false, List, [], ◌∷◌}
use Rattle.std.proofs.Common.{length, Option, Some, None, option_and_then, cond, sym, subst, ap}
use Rattle.std.proofs.Common.{refl, le-leb}
use Rattle.std.proofs.lemmas.Bool.{cases_Bool, leb-true, false≢true}
use Rattle.desk_base.specs.declared.limits.TheConstants as limit
use Rattle.desk_base.specs.declared.profile.Profile.TheVariants.{Capitals}
use Rattle.desk_expr.specs.declared.term.Term.{Term}
use Rattle.desk_tokens.specs.Words.{begins_like_reference}
use Rattle.desk_expr.specs.Words.{with_exception}
use Rattle.desk_tokens.specs.Tokens.{Lexeme, AreTokens}
use Rattle.desk_expr.specs.Grammar.{Symbol, with_word, word, SpellsTerm, bare, excepted}
use Rattle.desk_expr.specs.Spelling.{symbols, SpellsTermWithin}
use Rattle.desk_expr.specs.Printing.{printed_term}
use Rattle.desk_tokens.proofs.Lexing.{tokens_exist, same_tokens}
use Rattle.desk_expr.proofs.TermLemmas.{spells_term_once}
use Rattle.desk_catalogue.specs.Terms.{IsTermOf, ReadsTerms, if_licence, licence_of}
use Rattle.desk_catalogue.specs.Reading.{catalogue_of}

-- the shapes of symbols that spell a term
shape : (ss : List Symbol) (t : Term) → SpellsTerm ss t
    → ((o : Option (List ℕ)) × (ss ≡ word t o ∷ []))
    ⊎ ((v u : Term) × (o : Option (List ℕ)) × (x : List ℕ)
    × (ss ≡ word v o ∷ with_word ∷ word u (Some x) ∷ []))
shape ss t (bare _ o) = inl (o, refl)
shape ss t (excepted v u o x) = inr (v, u, o, x, refl)

-- the term that symbols spell, or that they spell none
abbrev IsSpelled : List Symbol → Option Term → Type 0
IsSpelled ss (Some t) = SpellsTerm ss t
IsSpelled ss None = (t : Term) → SpellsTerm ss t → ⊥

spelled : (ss : List Symbol) → (o : Option Term) × IsSpelled ss o
spelled (word t o ∷ []) = (Some t, bare t o)
spelled (word t o ∷ with_word ∷ word u (Some x) ∷ []) = (
  Some (with_exception t x),
  excepted t u o x,
)
spelled ss = (
  None,
  λ t h. elim (shape ss t h) [
    | inl (o, is) ↦ absurd cc
    | inr (v, u, o, x, is) ↦ absurd cc
  ],
)

of_symbols : (text : List ℕ) (ts : List Lexeme) → AreTokens 0 text ts
    → length text ≤ limit.EXPRESSION_BYTES → (o : Option Term) → IsSpelled (symbols ts) o
    → (p : Option (List ℕ)) × IsTermOf text p
of_symbols text ts are short (Some t) is = (Some (printed_term t), (t, (short, (ts, are, is)), refl))
of_symbols text ts are short None none = (
  None,
  λ t h. none t (subst (λ us. SpellsTerm (symbols us) t)
      (same_tokens Capitals 0 text h.1.0 ts h.1.1 are) h.1.2),
)

pub reading : (text : List ℕ) → (p : Option (List ℕ)) × IsTermOf text p
reading text =
    let tokens = tokens_exist Capitals 0 text in
    elim (cases_Bool (nat_le (length text) limit.EXPRESSION_BYTES)) [
      | inl short ↦ let found = spelled (symbols tokens.0) in
          of_symbols text tokens.0 tokens.1 (leb-true (length text) limit.EXPRESSION_BYTES short)
          found.0 found.1
      | inr long ↦ (None, λ t h. absurd (no_longer (length text) long h.0))
    ]
  where
    no_longer : (n : ℕ) → nat_le n limit.EXPRESSION_BYTES ≡ false → n ≤ limit.EXPRESSION_BYTES → ⊥
    no_longer n long short = false≢true (sym long ∙ le-leb n limit.EXPRESSION_BYTES short)

pub terms_read : (terms : List ℕ → Option (List ℕ)) × ReadsTerms terms
terms_read = (λ text. (reading text).0, λ text. (reading text).1)

-- a text has only one
pub same_term : (text : List ℕ) (a b : Option (List ℕ)) → IsTermOf text a → IsTermOf text b → a ≡ b
same_term text None None h k = refl
same_term text None (Some q) h (t, spells, is) = absurd (h t spells)
same_term text (Some p) None (t, spells, is) k = absurd (k t spells)
same_term text (Some p) (Some q) (t, spells, is) (u, spells', is') = ap Some (sym is
    ∙ ap printed_term (spells_term_once Capitals text t u spells.1 spells'.1) ∙ is')

pub one_catalogue : (terms others : List ℕ → Option (List ℕ)) → ReadsTerms terms → ReadsTerms others
    → (text : List ℕ) → catalogue_of terms text ≡ catalogue_of others text
one_catalogue terms others h k text = λ i. catalogue_of
    (λ t. same_term t (terms t) (others t) (h t) (k t) i) text

-- what the reader of a term returns
pub tells_reference : (terms : List ℕ → Option (List ℕ)) → ReadsTerms terms
    → (text : List ℕ) (t : Term) → SpellsTermWithin text t
    → begins_like_reference (printed_term t) ≡ true → None ≡ licence_of terms text
tells_reference terms h text t spells is =
    sym (ap (option_and_then if_licence)
    (same_term text (terms text) (Some (printed_term t)) (h text) (t, spells, refl))
    ∙ ap (λ b. cond b None (Some (printed_term t))) is)

pub tells_licence : (terms : List ℕ → Option (List ℕ)) → ReadsTerms terms
    → (text : List ℕ) (t : Term) → SpellsTermWithin text t
    → begins_like_reference (printed_term t) ≡ false → Some (printed_term t) ≡ licence_of terms text
tells_licence terms h text t spells is =
    sym (ap (option_and_then if_licence)
    (same_term text (terms text) (Some (printed_term t)) (h text) (t, spells, refl))
    ∙ ap (λ b. cond b None (Some (printed_term t))) is)

pub tells_none : (terms : List ℕ → Option (List ℕ)) → ReadsTerms terms → (text : List ℕ)
    → ((t : Term) → SpellsTermWithin text t → ⊥) → None ≡ licence_of terms text
tells_none terms h text none = sym (ap (option_and_then if_licence)
    (same_term text (terms text) None (h text) none))
