-- What a reader stands for: the lists of symbols that complete what it has read, each with its
-- tree.
use Rattle.std.specs.Prelude.{◌↔◌, ℕ, List, [], ◌∷◌}
use Rattle.desk_expr.specs.declared.reader.Group.{Group}
use Rattle.desk_expr.specs.declared.reader.Reader.{Reader}
use Rattle.desk_expr.specs.declared.reader.State.{State}
use Rattle.desk_expr.specs.declared.reader.State.TheVariants.{Operand, Word, Exception, Done}
use Rattle.desk_expr.specs.declared.word.Halt.{Halt}
use Rattle.desk_expr.specs.declared.word.Halt.TheVariants.{Unexpected, Unclosed, Memory}
use Rattle.desk_expr.specs.Tree.{Tree}
use Rattle.desk_expr.specs.Grammar.{Symbol}
use Rattle.desk_expr.specs.Spelling.{closings}
use Rattle.desk_expr.specs.Rest.{Goal, Want, After, AfterWord, WantException, Closed, Ended}

-- the groups that are open, the innermost last
abbrev pub goal_from : Goal → List Group → Goal
goal_from K [] = K
goal_from K (g ∷ gs) = goal_from (Closed K g.lists.items g.operands.items) gs

-- the lists of symbols that complete an open group in each state of the reader, given what is done
-- with the group's tree
abbrev pub RestIn : Goal → Group → State → List Symbol → Tree → Type 0
RestIn K g Operand r e = Want K g.lists.items g.operands.items r e
RestIn K g (Word t) r e = AfterWord K g.lists.items g.operands.items t r e
RestIn K g (Exception t) r e = WantException K g.lists.items g.operands.items t r e
RestIn K g (Done op) r e = After K g.lists.items g.operands.items op r e

-- the lists of symbols that complete what the reader has read, each with the tree of the whole text
abbrev pub Rest : Reader → List Symbol → Tree → Type 0
Rest m r e = RestIn (goal_from Ended m.outer.items) m.inner m.state r e

-- one more symbol
abbrev pub Steps : Reader → Symbol → Reader → Type 0
Steps m s n = (r : List Symbol) (e : Tree) → Rest m (s ∷ r) e ↔ Rest n r e

-- no list that begins with the symbol completes it
abbrev pub Refuses : Reader → Symbol → Type 0
Refuses m s = (r : List Symbol) (e : Tree) → Rest m (s ∷ r) e → ⊥

-- why the reader stops at a symbol
abbrev pub Stops : Reader → Symbol → Halt → Type 0
Stops m s Unexpected = Refuses m s
Stops m s Unclosed = ⊥
Stops m s (Memory error) = Unit {0}

-- why the reader stops at the end
abbrev pub EndsWith : Reader → Halt → Type 0
EndsWith m Unexpected = (n : ℕ) (e : Tree) → Rest m (closings n) e → ⊥
EndsWith m Unclosed = ((e : Tree) → Rest m [] e → ⊥) × (n : ℕ) × (e : Tree) × Rest m (closings n) e
EndsWith m (Memory error) = Unit {0}
