-- The numbers of the faults of a tree.
use Rattle.std.specs.Prelude.{ℕ}
use Rattle.desk_tree_gather.specs.declared.fault.GatherFault.{GatherFault}
use Rattle.desk_tree_gather.specs.declared.fault.GatherFault.TheVariants as faults

-- 0 if there was no memory
abbrev pub fault_number : GatherFault → ℕ
fault_number (faults.Memory error) = 0
fault_number (faults.BadToml path) = 1
fault_number (faults.BadAnnotation path index why) = 2
fault_number (faults.BadExpression path line) = 3
fault_number faults.BadPath = 4
fault_number faults.TwicePath = 5
fault_number faults.TooManyFiles = 6
fault_number faults.ExpressionTooLong = 7
