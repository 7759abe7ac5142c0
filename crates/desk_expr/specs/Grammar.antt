-- Which lists of symbols spell which tree (SPDX 2.3, Annex D.1 and D.4): whole lists are divided.
use Rattle.std.specs.Prelude.{◌≡◌, ℕ, List, [], ◌∷◌, ◌++◌, Option, Some}
use Rattle.desk_expr.specs.declared.term.Term.{Term}
use Rattle.desk_expr.specs.Tree.{Tree, one, all, any, parts_of}
use Rattle.desk_expr.specs.Words.{with_exception}

-- a token, apart from its place; a word is a term and, if it can be one, also the exception that it
-- is after WITH
pub data Symbol : Type 0 where
  opening : Symbol
  closing : Symbol
  and_word : Symbol
  or_word : Symbol
  with_word : Symbol
  word : Term → Option (List ℕ) → Symbol
  bad : Symbol

-- one part is itself, several are joined
abbrev pub all_of : List Tree → Tree
all_of [] = all (parts_of [])
all_of (t ∷ []) = t
all_of (t ∷ u ∷ ts) = all (parts_of (t ∷ u ∷ ts))

-- the same under OR: one part is itself, several are joined
abbrev pub any_of : List Tree → Tree
any_of [] = any (parts_of [])
any_of (t ∷ []) = t
any_of (t ∷ u ∷ ts) = any (parts_of (t ∷ u ∷ ts))

-- a word, or a word with an exception
pub data SpellsTerm : List Symbol → Term → Type 0 where
  bare : (t : Term) (x : Option (List ℕ)) → SpellsTerm (word t x ∷ []) t
  excepted : (t u : Term) (o : Option (List ℕ)) (x : List ℕ)
      → SpellsTerm (word t o ∷ with_word ∷ word u (Some x) ∷ []) (with_exception t x)

mutual
  -- a term, or an OR list in parentheses
  pub data Operand : List Symbol → Tree → Type 0 where
    a_term : (ts : List Symbol) (t : Term) → SpellsTerm ts t → Operand ts (one t)
    a_group : (ts : List Symbol) (es : List Tree) → OrList ts es
        → Operand (opening ∷ ts ++ closing ∷ []) (any_of es)

  -- operands joined by AND, with their trees
  pub data AndList : List Symbol → List Tree → Type 0 where
    one_operand : (ts : List Symbol) (e : Tree) → Operand ts e → AndList ts (e ∷ [])
    and_more : (ts us : List Symbol) (e : Tree) (es : List Tree) → Operand ts e → AndList us es
        → AndList (ts ++ and_word ∷ us) (e ∷ es)

  -- AND lists joined by OR, with their trees
  pub data OrList : List Symbol → List Tree → Type 0 where
    one_list : (ts : List Symbol) (es : List Tree) → AndList ts es → OrList ts (all_of es ∷ [])
    or_more : (ts us : List Symbol) (es fs : List Tree) → AndList ts es → OrList us fs
        → OrList (ts ++ or_word ∷ us) (all_of es ∷ fs)

-- the symbols spell the tree
abbrev pub SpellsTree : List Symbol → Tree → Type 0
SpellsTree ts e = (es : List Tree) × OrList ts es × (any_of es ≡ e)
