-- How terms and trees are printed: one space on either side of each operator, no parentheses around
-- an All under an Any, but around every other All or Any under another node.
use Rattle.std.specs.Prelude.{ℕ, Bool, true, false, List, [], ◌++◌, Option, Some, None, codes, if◌then◌else◌, IsTrue}
use Rattle.desk_expr.specs.declared.printing.Place.{Place}
use Rattle.desk_expr.specs.declared.printing.Place.TheVariants.{Top, InAll, InAny}
use Rattle.desk_expr.specs.declared.term.Term.{Term}
use Rattle.desk_expr.specs.Tree.{Tree, Trees, one, all, any, no_more, more}
use Rattle.desk_expr.specs.Words.{is_term}

-- what is printed behind a word: nothing, or WITH and the exception
abbrev pub printed_exception : Option (List ℕ) → List ℕ
printed_exception None = []
printed_exception (Some x) = codes " WITH " ++ x

-- the folded id or the reference, with its plus directly behind it
abbrev pub printed_word : Term → List ℕ
printed_word t = t.key ++ (if t.plus then codes "+" else [])

-- a word, then its exception if it has one
abbrev pub printed_term : Term → List ℕ
printed_term t = printed_word t ++ printed_exception t.exception

-- where an All and an Any are in parentheses
abbrev pub encloses_all : Place → Bool
encloses_all Top = false
encloses_all InAll = true
encloses_all InAny = false

-- an Any is in parentheses under each other node, since AND binds tighter than OR
abbrev pub encloses_any : Place → Bool
encloses_any Top = false
encloses_any InAll = true
encloses_any InAny = true

-- a text in parentheses, or as it is
abbrev pub enclosed : Bool → List ℕ → List ℕ
enclosed wanted text = (if wanted then codes "(" else [])
    ++ (text ++ (if wanted then codes ")" else []))

-- trees, in parentheses or not by where they are
abbrev mutual
  -- a tree under an All, under an Any, or at the top
  pub printed_in : Place → Tree → List ℕ
  printed_in place (one t) = printed_term t
  printed_in place (all ts) = enclosed (encloses_all place) (joined InAll (codes " AND ") ts)
  printed_in place (any ts) = enclosed (encloses_any place) (joined InAny (codes " OR ") ts)

  -- the parts of a node with its operator between them
  pub joined : Place → List ℕ → Trees → List ℕ
  joined place between no_more = []
  joined place between (more t ts) = printed_in place t ++ joined_on place between ts

  -- the parts after the first
  pub joined_on : Place → List ℕ → Trees → List ℕ
  joined_on place between no_more = []
  joined_on place between (more t ts) = between
      ++ (printed_in place t ++ joined_on place between ts)

-- a whole expression, which itself has no parentheses around it
abbrev pub printed : Tree → List ℕ
printed e = printed_in Top e

-- All and Any have two or more parts
abbrev pub IsSeveral : Trees → Type 0
IsSeveral no_more = ⊥
IsSeveral (more t no_more) = ⊥
IsSeveral (more t (more u ts)) = Unit {0}

-- each term is well formed, and each All and Any has two or more parts
abbrev mutual
  -- the tree itself
  pub IsWellFormed : Tree → Type 0
  IsWellFormed (one t) = IsTrue (is_term t)
  IsWellFormed (all ts) = IsSeveral ts × AreWellFormed ts
  IsWellFormed (any ts) = IsSeveral ts × AreWellFormed ts

  -- each of the parts of a node
  pub AreWellFormed : Trees → Type 0
  AreWellFormed no_more = Unit {0}
  AreWellFormed (more t ts) = IsWellFormed t × AreWellFormed ts
