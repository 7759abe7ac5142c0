-- A fault that is not for lack of memory.
use Rattle.std.proofs.Common.{◌≡◌, ◌<◌, ◌⊎◌, inl, inr, ap, arith}
use Rattle.std.specs.Prelude.{alloc_error}
use Rattle.desk_expr.specs.Faults.{fault_number}
use Rattle.desk_expr.specs.declared.fault.ParseFault.{ParseFault}
use Rattle.desk_expr.specs.declared.fault.ParseFault.TheVariants.{Memory}

-- the other case holds
pub not_memory : {P : Type 0} (fault : ParseFault) → 0 < fault_number fault
    → (fault ≡ Memory alloc_error) ⊎ P → P
not_memory fault some (inl is) = let zero = ap fault_number is in absurd (omega arith)
not_memory fault some (inr p) = p
