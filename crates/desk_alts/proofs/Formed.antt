-- A term that a text spells is well formed: its words are ids or references, and its exception is
-- an id.
use Rattle.std.proofs.Common.{◌≡◌, ℕ, true, List, [], ◌∷◌, Option, Some, refl, subst, inl, inr}
use Rattle.desk_base.specs.Folded.{folded}
use Rattle.desk_base.specs.declared.profile.Profile.{Profile}
use Rattle.desk_expr.proofs.TermLemmas.{term_inv}
use Rattle.desk_expr.proofs.WordLemmas.{excepted_is_term, folded_id, licence_is_term}
use Rattle.desk_expr.proofs.WordLemmas.{or_later_is_term, reference_is_term, word_of}
use Rattle.desk_expr.specs.Grammar.{with_word, word}
use Rattle.desk_expr.specs.Spelling.{SpellsTermWithinBy, symbol, symbol_of, symbols}
use Rattle.desk_tokens.specs.Tokens.{AreTokensBy, Lexeme}
use Rattle.desk_tokens.specs.Words.{IsWordOf}
use Rattle.desk_expr.specs.Words.{is_folded_id, is_term, licence_term, or_later_term}
use Rattle.desk_tokens.specs.Words.{without_last}
use Rattle.desk_expr.specs.Words.{reference_term, with_exception}
use Rattle.desk_expr.specs.declared.term.Term.{Term}
use Rattle.desk_tokens.specs.declared.token.Kind.{Kind}
use Rattle.desk_tokens.specs.declared.token.Kind.TheVariants.{Opening, Closing, And, Or, With}
use Rattle.desk_tokens.specs.declared.token.Kind.TheVariants.{Licence, LicenceOrLater, Reference, Bad}

word_is_term : (k : Kind) (w : List ℕ) (t : Term) (o : Option (List ℕ)) → IsWordOf k w
    → symbol k w ≡ word t o → is_term t ≡ true
word_is_term Opening w t o h e = absurd (cc)
word_is_term Closing w t o h e = absurd (cc)
word_is_term And w t o h e = absurd (cc)
word_is_term Or w t o h e = absurd (cc)
word_is_term With w t o h e = absurd (cc)
word_is_term Licence w t o h e = let same : licence_term w ≡ t = cc in
    subst (λ u. is_term u ≡ true) same (licence_is_term w (folded w) refl h)
word_is_term LicenceOrLater w t o h e = let same : or_later_term w ≡ t = cc in
    subst (λ u. is_term u ≡ true) same (or_later_is_term w (folded (without_last w)) refl h)
word_is_term Reference w t o h e = let same : reference_term w ≡ t = cc in
    subst (λ u. is_term u ≡ true) same (reference_is_term w w refl h)
word_is_term Bad w t o h e = absurd (cc)

exception_is_id : (k : Kind) (w : List ℕ) (t : Term) (x : List ℕ) → IsWordOf k w
    → symbol k w ≡ word t (Some x) → is_folded_id x ≡ true
exception_is_id Opening w t x h e = absurd (cc)
exception_is_id Closing w t x h e = absurd (cc)
exception_is_id And w t x h e = absurd (cc)
exception_is_id Or w t x h e = absurd (cc)
exception_is_id With w t x h e = absurd (cc)
exception_is_id Licence w t x h e = let same : folded w ≡ x = cc in
    subst (λ u. is_folded_id u ≡ true) same (folded_id w h)
exception_is_id LicenceOrLater w t x h e = absurd (cc)
exception_is_id Reference w t x h e = absurd (cc)
exception_is_id Bad w t x h e = absurd (cc)

-- each token that is a word is such a word
abbrev AreWords : List Lexeme → Type 0
AreWords [] = Unit {0}
AreWords (l ∷ ls) = IsWordOf l.kind l.text × AreWords ls

are_words : (profile : Profile) (place : ℕ) (bytes : List ℕ) (ls : List Lexeme)
    → AreTokensBy profile place bytes ls → AreWords ls
are_words profile place bytes [] are = tt
are_words profile place bytes (l ∷ ls) (
  rest,
  first,
  are,
) = (word_of profile l.kind l.text first.kind, are_words profile l.end rest ls are)

one_word : (ls : List Lexeme) (t : Term) (o : Option (List ℕ)) → AreWords ls
    → symbols ls ≡ word t o ∷ [] → is_term t ≡ true
one_word [] t o words e = absurd (cc)
one_word (l ∷ ls) t o words e = let first : symbol_of l ≡ word t o = cc in
    word_is_term l.kind l.text t o words.0 first

three_words : (ls : List Lexeme) (v u : Term) (o : Option (List ℕ)) (x : List ℕ) → AreWords ls
    → symbols ls ≡ word v o ∷ with_word ∷ word u (Some x) ∷ [] → is_term (with_exception v x) ≡ true
three_words [] v u o x words e = absurd (cc)
three_words (a ∷ []) v u o x words e = absurd (cc)
three_words (a ∷ b ∷ []) v u o x words e = absurd (cc)
three_words (a ∷ b ∷ c ∷ ls) v u o x words e =
    let first : symbol_of a ≡ word v o = cc in
    let third : symbol_of c ≡ word u (Some x) = cc in
    excepted_is_term v x (word_is_term a.kind a.text v o words.0 first)
    (exception_is_id c.kind c.text u x words.1.1.0 third)

pub well_formed : (profile : Profile) (text : List ℕ) (t : Term) → SpellsTermWithinBy profile text t
    → is_term t ≡ true
well_formed profile text t (short, (ls, are, spells)) =
    let words = are_words profile 0 text ls are in
    elim (term_inv (symbols ls) t spells) [
      | inl (o, e) ↦ one_word ls t o words e
      | inr (v, u, o, x, e, same) ↦
          subst (λ y. is_term y ≡ true) same (three_words ls v u o x words e)
    ]
