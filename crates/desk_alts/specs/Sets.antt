-- Sets of terms, their order, and how many minimal ones a tree has.
use Rattle.std.specs.Prelude.{◌≡◌, ◌⊎◌, ℕ, zero, suc, ◌+◌, ◌<◌, ◌≤◌, List, length, All, Contains}
use Rattle.std.specs.declared.cmp.Ordering.{Ordering}
use Rattle.std.specs.Ordering.{nat_cmp, ordering_then}
use Rattle.std.specs.Cmp.Lexicographic.{slice_cmp}
use Rattle.std.specs.List.{AllPairs}
use Rattle.std.specs.List.Sorted.{IsStrictlySortedBy}
use Rattle.desk_base.specs.Limits.{listed_sets}
use Rattle.desk_expr.specs.declared.term.Term.{Term}
use Rattle.desk_expr.specs.Tree.{Tree, Trees, one, all, any, no_more, more}
use Rattle.desk_expr.specs.Meaning.{IsMinimal}
use Rattle.desk_expr.specs.Occurring.{term_order, AreTermsOf}

-- a set of terms as a list: in the order of terms, each once
abbrev pub IsTermSet : List Term → Type 0
IsTermSet s = IsStrictlySortedBy term_order s

-- the order of sets: by size, then by the terms one by one
abbrev pub set_order : List Term → List Term → Ordering
set_order a b = ordering_then (nat_cmp (length a) (length b)) (slice_cmp term_order a b)

-- the list of all minimal sets of the tree, each once, in the order of sets
pub record AreAlternatives (e : Tree) (sets : List (List Term)) : Type 0 where
  pub only : All (λ s. IsTermSet s × IsMinimal s e) sets
  pub every : (s : List Term) → IsTermSet s → IsMinimal s e → Contains sets s
  pub ordered : IsStrictlySortedBy set_order sets

-- the tree has more than this many minimal sets
abbrev pub HasMoreSets : ℕ → Tree → Type 0
HasMoreSets n e =
    (sets : List (List Term)) × All (λ s. IsTermSet s × IsMinimal s e) sets
    × AllPairs (λ s r. s ≡ r → ⊥) sets × (n < length sets)

-- the tree has more than this many distinct terms
abbrev pub HasMoreTerms : ℕ → Tree → Type 0
HasMoreTerms n e = (ts : List Term) × AreTermsOf e ts × (n < length ts)

-- how many parts a node has
abbrev pub parts_count : Trees → ℕ
parts_count no_more = 0
parts_count (more t ts) = 1 + parts_count ts

-- the first k parts of a node, or all if there are fewer
abbrev pub first_parts : ℕ → Trees → Trees
first_parts zero ts = no_more
first_parts (suc k) no_more = no_more
first_parts (suc k) (more t ts) = more t (first_parts k ts)

-- the parts under their operator, or the part itself if there is only one
abbrev pub joined : (Trees → Tree) → Trees → Tree
joined node no_more = node no_more
joined node (more t no_more) = t
joined node (more t (more u us)) = node (more t (more u us))

-- some front of a node, which is its first parts under its operator, has more than 64 minimal sets
abbrev pub HasWideFrontOf : (Trees → Tree) → Trees → Type 0
HasWideFrontOf node ts = (k : ℕ) × (1 ≤ k) × (k ≤ parts_count ts)
    × HasMoreSets listed_sets (joined node (first_parts k ts))

-- some front of some node has more than 64 minimal sets
abbrev mutual
  -- of the tree itself, or of a node below it
  pub HasWideFront : Tree → Type 0
  HasWideFront (one t) = ⊥
  HasWideFront (all ts) = HasWidePart ts ⊎ HasWideFrontOf all ts
  HasWideFront (any ts) = HasWidePart ts ⊎ HasWideFrontOf any ts

  -- of one of the parts, or of a node below them
  pub HasWidePart : Trees → Type 0
  HasWidePart no_more = ⊥
  HasWidePart (more t ts) = HasWideFront t ⊎ HasWidePart ts
