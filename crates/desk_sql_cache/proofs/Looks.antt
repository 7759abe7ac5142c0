-- What is looked up for the rows that a store keeps beside its tables.
use Rattle.std.proofs.Common.{◌≡◌, Err, Ok, Result}
use Rattle.std.specs.Prelude.{IfErr, IfOk}
use Rattle.std.proofs.lemmas.Result.{IfErr-weaker}
use Rattle.sqlite.specs.State.{State}
use Rattle.desk_model.specs.Tables.{Tables}
use Rattle.desk_model.specs.declared.command.Fault.{Fault}
use Rattle.desk_model.specs.declared.command.Fault.TheVariants.{Memory}
use Rattle.desk_sql_layout.specs.Causes.{HasCauseIf}
use Rattle.desk_sql_layout.proofs.Causes.{memory_cause}

-- a fault that says only that no memory was left always has a cause
pub memory_causes : (Given : Tables → Type 0) (old new : State) {A : Type 0} (r : Result A Fault)
    → IfErr r (λ fault. fault ≡ Memory) → IfErr r (HasCauseIf Given old new)
memory_causes Given old new r = IfErr-weaker r (λ fault. fault ≡ Memory) (HasCauseIf Given old new)
    (λ fault is. memory_cause Given old new fault is)

pub both_ok : {A E : Type 0} (r : Result A E) (P Q : A → Type 0) → IfOk r P → IfOk r Q
    → IfOk r (λ x. P x × Q x)
both_ok (Ok x) P Q p q = (p, q)
both_ok (Err e) P Q p q = tt
