-- What a reader of one term stands for: the lists of symbols that complete what it has read, each
-- with its term.
use Rattle.std.specs.Prelude.{◌≡◌, ◌⊎◌, ◌↔◌, ℕ, List, [], ◌∷◌, Some}
use Rattle.desk_expr.specs.declared.term.Term.{Term}
use Rattle.desk_expr.specs.declared.term_reader.TermState.{TermState}
use Rattle.desk_expr.specs.declared.term_reader.TermState.TheVariants.{Start, Word, Exception, Done}
use Rattle.desk_expr.specs.declared.word.Halt.{Halt}
use Rattle.desk_expr.specs.declared.word.Halt.TheVariants.{Unexpected, Unclosed, Memory}
use Rattle.desk_expr.specs.declared.fault.ParseFault.{ParseFault}
use Rattle.desk_expr.specs.declared.fault.ParseFault.TheVariants as fault
use Rattle.desk_expr.specs.Words.{with_exception}
use Rattle.desk_expr.specs.Grammar.{Symbol, with_word, word, SpellsTerm}

-- the lists of symbols that complete a term from each state of its reader: nothing after a whole
-- term; after a word perhaps WITH and an exception
abbrev pub TermRest : TermState → List Symbol → Term → Type 0
TermRest Start r t = SpellsTerm r t
TermRest (Word v) r t =
    ((r ≡ []) × (v ≡ t))
    ⊎ ((u : Term) × (x : List ℕ) × (r ≡ with_word ∷ word u (Some x) ∷ [])
    × (with_exception v x ≡ t))
TermRest (Exception v) r t = (u : Term) × (x : List ℕ) × (r ≡ word u (Some x) ∷ [])
    × (with_exception v x ≡ t)
TermRest (Done v) r t = (r ≡ []) × (v ≡ t)

-- something has been read
abbrev pub HasBegun : TermState → Type 0
HasBegun Start = ⊥
HasBegun (Word v) = Unit {0}
HasBegun (Exception v) = Unit {0}
HasBegun (Done v) = Unit {0}

-- one more symbol
abbrev pub TermSteps : TermState → Symbol → TermState → Type 0
TermSteps m s n = HasBegun n × ((r : List Symbol) (t : Term)
    → TermRest m (s ∷ r) t ↔ TermRest n r t)

-- why the reader stops at a symbol
abbrev pub TermStops : TermState → Symbol → Halt → Type 0
TermStops m s Unexpected = (r : List Symbol) (t : Term) → TermRest m (s ∷ r) t → ⊥
TermStops m s Unclosed = ⊥
TermStops m s (Memory error) = Unit {0}

-- the term if the symbols end here
abbrev pub TermEnds : TermState → Term → Type 0
TermEnds m v = (t : Term) → TermRest m [] t ↔ (v ≡ t)

-- why the symbols can't end here
abbrev pub TermFalls : TermState → ℕ → ParseFault → Type 0
TermFalls Start end f = f ≡ fault.Empty 0
TermFalls (Exception v) end f = f ≡ fault.Unexpected end
TermFalls (Word v) end f = ⊥
TermFalls (Done v) end f = ⊥
