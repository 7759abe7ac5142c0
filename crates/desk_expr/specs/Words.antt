-- The term that a word is (SPDX 2.3, Annex D.2 and D.3).
use Rattle.std.specs.Prelude.{ℕ, ◌||◌, ◌&&◌, not, Bool, true, false, List, Option, Some}
use Rattle.std.specs.Prelude.{None}
use Rattle.std.specs.Str.{bytes_eq}
use Rattle.desk_base.specs.Idstring.{is_idstring}
use Rattle.desk_base.specs.Folded.{folded}
use Rattle.desk_tokens.specs.Words.{is_reference, without_last}
use Rattle.desk_expr.specs.declared.term.Term.{Term}

-- the terms that the words are: ids are folded, references kept byte for byte
abbrev pub licence_term : List ℕ → Term
licence_term w = record { key = folded w; plus = false; exception = None }

-- the word is an id and a plus: the plus is kept apart from the folded id
abbrev pub or_later_term : List ℕ → Term
or_later_term w = record { key = folded (without_last w); plus = true; exception = None }

-- a reference has no plus, and its capitals stay
abbrev pub reference_term : List ℕ → Term
reference_term w = record { key = w; plus = false; exception = None }

-- a term with an exception
abbrev pub with_exception : Term → List ℕ → Term
with_exception t x = record t { exception = Some x }

-- an id in lower case
abbrev pub is_folded_id : List ℕ → Bool
is_folded_id k = is_idstring k && bytes_eq (folded k) k

-- no exception, or one that is a folded id
abbrev pub is_exception : Option (List ℕ) → Bool
is_exception None = true
is_exception (Some x) = is_folded_id x

-- a well-formed term: a folded id, perhaps with a plus, or a reference, and perhaps a folded
-- exception
abbrev pub is_term : Term → Bool
is_term t = (is_folded_id t.key || (is_reference t.key && not t.plus)) && is_exception t.exception
