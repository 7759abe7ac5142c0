-- Which annotations are for a path, by the patterns that match it.
use Rattle.std.specs.Prelude.{ℕ, List}
use Rattle.std.specs.List.{Any}
use Rattle.desk_tree_patterns.specs.Glob.{IsMatch}
use Rattle.desk_tree_annotations.specs.declared.annotation.Annotation.{Annotation}

-- some pattern of the annotation matches the path
abbrev pub Covers : List ℕ → Annotation → Type 0
Covers path annotation = Any (λ pieces. IsMatch pieces path) annotation.paths
