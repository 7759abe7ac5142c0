use Rattle.std.proofs.Common.{◌≡◌, ◌++◌, List}
use Rattle.desk_tree_annotations.specs.declared.annotation.Annotation.{Annotation}
use Rattle.desk_tree_infos.specs.Sharing.{annotations_at}
use Rattle.desk_tree_infos.proofs.folders.add.Given as goal

abbrev pub invariant-loop-annotation : goal.invariant-loop-annotation
invariant-loop-annotation l = record {
  all : l.all.items ≡ l.initial.all.items ++ l.yielded;
  numbers : (more : List Annotation)
      → annotations_at (l.all.items ++ more) l.numbers.items ≡ l.yielded;
}
