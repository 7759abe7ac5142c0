-- The tree of a node, and what its parts keep.
use Rattle.std.specs.Prelude.{◌+◌, ◌≤◌, List, [], ◌∷◌, length}
use Rattle.std.proofs.Common.{arith}
use denote.Param.Weighed.{most}
use Rattle.desk_expr.specs.declared.expr.Node.{Node}
use Rattle.desk_expr.specs.declared.expr.Node.TheVariants.{One, All, Any}
use Rattle.desk_expr.specs.Tree.{Tree, one, all, any, parts_of, tree_size, parts_size}

-- the tree that a node in memory stands for
abbrev pub tree_of : Node → Tree
tree_of (One t) = one t
tree_of (All parts) = all (parts_of parts.items)
tree_of (Any parts) = any (parts_of parts.items)

-- All and Any have two or more parts
abbrev pub HasParts : Node → Type 0
HasParts (One t) = Unit {0}
HasParts (All parts) = 2 ≤ length parts.items
HasParts (Any parts) = 2 ≤ length parts.items

-- the largest part of a node, and one more, is at most the size of all its parts, and one more
pub most_parts : (ts : List Tree) → most (λ t. tree_size t + 1) ts ≤ parts_size (parts_of ts) + 1
most_parts [] = omega arith
most_parts (t ∷ ts) = omega (arith, most_parts ts)
