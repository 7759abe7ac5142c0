-- The numbers of what may be wrong with an annotation, in the order in which it is looked for.
use Rattle.std.specs.Prelude.{ℕ}
use Rattle.desk_tree_annotations.specs.declared.fault.AnnotationFault.{AnnotationFault}
use Rattle.desk_tree_annotations.specs.declared.fault.AnnotationFault.TheVariants.{NoPath, BadKind}
use Rattle.desk_tree_annotations.specs.declared.fault.AnnotationFault.TheVariants.{BadPrecedence}
use Rattle.desk_tree_annotations.specs.declared.fault.AnnotationFault.TheVariants.{BadExpression}

-- The number with which a fault is reported; a lower one is looked for first.
abbrev pub kind_number : AnnotationFault → ℕ
kind_number NoPath = 1
kind_number BadKind = 2
kind_number BadPrecedence = 3
kind_number BadExpression = 4
