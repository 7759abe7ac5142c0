-- What may follow a place in an expression: for each state of the reader, the lists that complete
-- it, with the tree.
use Rattle.std.specs.Prelude.{◌≡◌, ◌⊎◌, ℕ, List, [], ◌∷◌, ◌++◌, Option, Some}
use Rattle.desk_expr.specs.declared.term.Term.{Term}
use Rattle.desk_expr.specs.Tree.{Tree, one}
use Rattle.desk_expr.specs.Words.{with_exception}
use Rattle.desk_expr.specs.Grammar.{Symbol, opening, closing, and_word, or_word, with_word, word, all_of, any_of}

mutual
  -- an operand is at the front, and the last list is what follows it
  pub data OperandRun : List Symbol → Tree → List Symbol → Type 0 where
    bare_run : (t : Term) (o : Option (List ℕ)) (r : List Symbol)
        → OperandRun (word t o ∷ r) (one t) r
    excepted_run : (t u : Term) (o : Option (List ℕ)) (x : List ℕ) (r : List Symbol)
        → OperandRun (word t o ∷ with_word ∷ word u (Some x) ∷ r) (one (with_exception t x)) r
    group_run : (ts : List Symbol) (es : List Tree) (r : List Symbol) → OrRun ts es (closing ∷ r)
        → OperandRun (opening ∷ ts) (any_of es) r

  -- operands joined by AND are at the front, with their trees, and the last list is what follows
  -- them
  pub data AndRun : List Symbol → List Tree → List Symbol → Type 0 where
    last_operand : (ts : List Symbol) (e : Tree) (r : List Symbol) → OperandRun ts e r
        → AndRun ts (e ∷ []) r
    next_operand : (ts us : List Symbol) (e : Tree) (es : List Tree) (r : List Symbol)
        → OperandRun ts e (and_word ∷ us) → AndRun us es r → AndRun ts (e ∷ es) r

  -- AND lists joined by OR are at the front, with their trees, and the last list is what follows
  -- them
  pub data OrRun : List Symbol → List Tree → List Symbol → Type 0 where
    last_list : (ts : List Symbol) (es : List Tree) (r : List Symbol) → AndRun ts es r
        → OrRun ts (all_of es ∷ []) r
    next_list : (ts us : List Symbol) (es fs : List Tree) (r : List Symbol)
        → AndRun ts es (or_word ∷ us) → OrRun us fs r → OrRun ts (all_of es ∷ fs) r

-- what is done with a whole OR list: from its tree and what follows it, the final tree
abbrev pub Goal : Type 1
Goal = Tree → List Symbol → Tree → Type 0

-- an AND list has ended, with its parts
abbrev pub Tail : Goal → List Tree → List Tree → List Symbol → Tree → Type 0
Tail K ors parts r e =
    K (any_of (ors ++ all_of parts ∷ [])) r e
    ⊎ ((r' : List Symbol) × (fs : List Tree) × (r2 : List Symbol) × (r ≡ or_word ∷ r')
    × OrRun r' fs r2 × K (any_of (ors ++ all_of parts ∷ fs)) r2 e)

-- an operand is wanted
abbrev pub Want : Goal → List Tree → List Tree → List Symbol → Tree → Type 0
Want K ors ands r e = (es : List Tree) × (r1 : List Symbol) × AndRun r es r1
    × Tail K ors (ands ++ es) r1 e

-- an operand has ended
abbrev pub After : Goal → List Tree → List Tree → Tree → List Symbol → Tree → Type 0
After K ors ands op r e =
    Tail K ors (ands ++ op ∷ []) r e
    ⊎ ((r' : List Symbol) × (r ≡ and_word ∷ r') × Want K ors (ands ++ op ∷ []) r' e)

-- an exception is wanted
abbrev pub WantException : Goal → List Tree → List Tree → Term → List Symbol → Tree → Type 0
WantException K ors ands t r e =
    (u : Term) × (x : List ℕ) × (r' : List Symbol) × (r ≡ word u (Some x) ∷ r')
    × After K ors ands (one (with_exception t x)) r' e

-- a word has ended, and an exception may follow
abbrev pub AfterWord : Goal → List Tree → List Tree → Term → List Symbol → Tree → Type 0
AfterWord K ors ands t r e =
    After K ors ands (one t) r e
    ⊎ ((r' : List Symbol) × (r ≡ with_word ∷ r') × WantException K ors ands t r' e)

-- a group's OR list has ended: a closing parenthesis, and the group is an operand
abbrev pub Closed : Goal → List Tree → List Tree → Goal
Closed K ors ands x r e = (r' : List Symbol) × (r ≡ closing ∷ r') × After K ors ands x r' e

-- at the end
abbrev pub Ended : Goal
Ended x r e = (r ≡ []) × (x ≡ e)
