use Rattle.std.proofs.Common.{◌≡◌, ◌⊎◌, inl, inr, ap}
use Rattle.std.specs.Prelude.{Err}
use Rattle.desk_fields.specs.declared.fault.DocFault.{DocFault}
use Rattle.desk_fields.specs.declared.fault.DocFault.TheVariants.{Memory}
use Rattle.desk_texts.proofs.document.read_document.Goals as goal

other_case : {P : Type 0} (f : DocFault) → (f ≡ Memory → ⊥) → (f ≡ Memory) ⊎ P → P
other_case f told (inl is) = absurd (told is)
other_case f told (inr p) = p

pub returns-in_ok-fault_of-in-Err : goal.returns-in_ok-fault_of-in-Err
returns-in_ok-fault_of-in-Err c = (
  Err c.in-Err.fault,
  other_case c.in-Err.fault c.in_ok-fault_of-in-Err.ensures.told c.in-Err.ensures.err,
  ap Err c.in_ok-fault_of-in-Err.ensures.fault,
)
