-- Terms as texts (SPDX 2.3, Annex D.2 to D.4).
use Rattle.std.specs.Prelude.{ℕ, ◌&&◌, not, Bool, List, [], ◌∷◌, ◌++◌, drop, codes, nat_eq, Option}
use Rattle.std.specs.Prelude.{Some, None, if◌then◌else◌}
use Rattle.std.specs.List.{starts_with}
use Rattle.desk_base.specs.Idstring.{is_idstring}
use Rattle.desk_expr.specs.declared.term.Term.{Term}
use Rattle.desk_tokens.specs.Words.{is_reference, without_plus}
use Rattle.desk_expr.specs.Spelling.{SpellsTermWithin, SpellsNoTerm}
use Rattle.desk_fields.specs.Text.{first_word, after_word}

-- the term that a text spells, if it spells one
abbrev pub IsTerm : List ℕ → Option Term → Type 0
IsTerm text None = SpellsNoTerm text
IsTerm text (Some t) = SpellsTermWithin text t

-- the texts spell these terms, one each
abbrev pub AreTerms : List (List ℕ) → List Term → Type 0
AreTerms [] [] = Unit {0}
AreTerms (text ∷ texts) (t ∷ ts) = SpellsTermWithin text t × AreTerms texts ts
AreTerms _ _ = ⊥

-- the terms that texts spell, if each spells one
abbrev pub AreAllTerms : List (List ℕ) → Option (List Term) → Type 0
AreAllTerms texts None = (ts : List Term) → AreTerms texts ts → ⊥
AreAllTerms texts (Some ts) = AreTerms texts ts

-- the reference that a printed term names: its first word, if that is a reference
abbrev pub reference_in : List ℕ → Option (List ℕ)
reference_in term = if is_reference (first_word term) then Some (first_word term) else None

-- a printed term is a licence alone: an idstring (Annex D.2), so without plus and exception, and
-- not a reference
abbrev pub is_licence : List ℕ → Bool
is_licence term = is_idstring term && not (is_reference term)

-- the licence in place of a printed term's first word, with what follows that word: its exception,
-- if it has one
abbrev pub adopted_as : List ℕ → List ℕ → List ℕ
adopted_as licence term = licence ++ after_word term

-- the id of the licence that a printed term names: its first word, without the plus that may follow
-- an id (Annex D.3)
abbrev pub licence_id_in : List ℕ → List ℕ
licence_id_in term = without_plus (first_word term)

-- what follows WITH
abbrev pub behind_with : List ℕ → Option (List ℕ)
behind_with rest = if starts_with nat_eq rest (codes " WITH ") then Some (drop 6 rest) else None

-- the exception of a printed term: what follows WITH after the first word, if WITH is there (Annex
-- D.4)
abbrev pub exception_in : List ℕ → Option (List ℕ)
exception_in term = behind_with (after_word term)
