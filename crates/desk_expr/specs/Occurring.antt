-- The terms that occur in a tree.
use Rattle.std.specs.Prelude.{◌↔◌, List, [], ◌∷◌, ◌++◌, Contains}
use Rattle.std.specs.declared.cmp.Ordering.{Ordering}
use Rattle.std.specs.Ordering.{nat_cmp, bool_cmp, ordering_then}
use Rattle.std.specs.Option.{option_cmp}
use Rattle.std.specs.Cmp.Lexicographic.{slice_cmp}
use Rattle.std.specs.List.Sorted.{IsStrictlySortedBy}
use Rattle.desk_expr.specs.declared.term.Term.{Term}
use Rattle.desk_expr.specs.Tree.{Tree, Trees, one, all, any, no_more, more}

-- the terms from the left, each as often as it occurs
abbrev mutual
  -- those of a tree
  pub leaves : Tree → List Term
  leaves (one t) = t ∷ []
  leaves (all ts) = leaves_of ts
  leaves (any ts) = leaves_of ts

  -- those of the parts of a node, one part after another
  pub leaves_of : Trees → List Term
  leaves_of no_more = []
  leaves_of (more t ts) = leaves t ++ leaves_of ts

-- the order of terms: by key, then no plus before plus, then no exception before some, then by the
-- exception
abbrev pub term_order : Term → Term → Ordering
term_order a b =
    ordering_then (slice_cmp nat_cmp a.key b.key)
    (ordering_then (bool_cmp a.plus b.plus)
    (option_cmp (slice_cmp nat_cmp) a.exception b.exception))

-- the distinct terms of the tree, in order
pub record AreTermsOf (e : Tree) (ts : List Term) : Type 0 where
  pub members : (t : Term) → Contains ts t ↔ Contains (leaves e) t
  pub ordered : IsStrictlySortedBy term_order ts
