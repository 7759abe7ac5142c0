-- What a refused conversion comes to.
use Rattle.std.proofs.Common.{◌≡◌, ◌⊎◌, ℕ, Bool, List, Option, Result, Ok, Err, refl, inl, inr}
use Rattle.std.specs.Prelude.{IfOk}
use Rattle.std.specs.Io.KnownBytes.{Appends}
use Rattle.desk_spdx_files.specs.declared.idle.Files.{Files}
use Rattle.desk_import.specs.Results.{IsRefused}
use Rattle.desk_import.specs.declared.faults.ConvertFault.{ConvertFault}
use Rattle.desk_import.specs.declared.faults.ConvertFault.TheVariants.{Memory}
use Rattle.desk_subcommands.specs.Converting.{convert_fault_line, Converts}
use Rattle.desk_subcommands.specs.declared.failure.Failure.{Failure}

pub refused_told : (files : Files) (bytes : List ℕ) (is_terminal : Bool) (fault : ConvertFault)
    (old new : Option (List ℕ)) (r : Result ℕ Failure)
    → (fault ≡ Memory) ⊎ IsRefused files bytes fault
    → IfOk r (λ status. (status ≡ 1) × Appends old new (convert_fault_line fault))
    → IfOk r (λ _. ¬ (fault ≡ Memory))
    → IfOk r (λ status. (text : List ℕ) × Converts files bytes is_terminal text status
    × Appends old new text)
refused_told files bytes is_terminal fault old new (Ok status) (inl memory) told other = absurd (other memory)
refused_told files bytes is_terminal fault old new (Ok status) (inr refused) told other =
    (convert_fault_line fault, inr (fault, refused, refl, told.0), told.1)
refused_told files bytes is_terminal fault old new (Err failure) why told other = tt
