-- A database is left without being adopted only for a cause.
use Rattle.std.proofs.Common.{inl, inr, IfErr, Ok, Err, Result, IsTrue, ◌∙◌, arith}
use Rattle.sqlite.specs.State.{State, HasCleanDisk}
use Rattle.desk_model.specs.declared.command.Fault.{Fault}
use Rattle.desk_model.specs.Tables.{Tables}
use Rattle.desk_sql_layout.specs.Held.{seen_of}
use Rattle.desk_sql_layout.specs.Causes.{AreWritten, HasCauseIf}
use Rattle.desk_sql_layout.proofs.Causes.{cause_after}
use Rattle.desk_sql_layout.proofs.Clean.{clean_before}
use Rattle.desk_sql_adopt.specs.Reading.{HasStayed, IsSpared}
use Rattle.desk_sql_adopt.proofs.Spared.{kept}
use Rattle.desk_store.specs.Causes.{AdoptFailsIf, IsCausedFault}
use Rattle.desk_store.specs.declared.fault.AdoptFault.{AdoptFault}
use Rattle.desk_store.specs.declared.fault.AdoptFault.TheVariants as adopt

-- ---- what isn't adopted

-- a fault that was returned
pub fault_adopts : (Given : Tables → Type 0) (old new : State) (fault : Fault)
    → HasCauseIf Given old new fault → AdoptFailsIf Given old new (adopt.Fault fault)
fault_adopts Given old new fault has = record { cause = has.cause }

-- what is never returned for such tables
pub never_adopts : (Given : Tables → Type 0) (old new : State) (fault : AdoptFault)
    → (HasCleanDisk new → IsTrue old.is_open → (t : Tables) → (seen_of old).holds t → Given t → ⊥)
    → AdoptFailsIf Given old new fault
never_adopts Given old new fault never = record {
  cause = λ clean opened unlimited t holds written is. absurd (never clean opened t holds is);
}

-- one call after another
module _ (Given : Tables → Type 0) (a b c : State) (stayed : HasStayed a b)
    (honest : HasCleanDisk c → HasCleanDisk b) where
  later : (fault : AdoptFault) → IsCausedFault b c fault → IsCausedFault a c fault
  later (adopt.Fault fault) (inl memory) = inl memory
  later (adopt.Fault fault) (inr more) = inr (
    more.0,
    omega (arith, stayed.0.survives.counts, more.1),
  )
  later adopt.NotADesk none = none
  later (adopt.BadVersion n) none = none
  later (adopt.Unsound f) none = none

  pub adopts_after : (fault : AdoptFault) → AdoptFailsIf Given b c fault
      → AdoptFailsIf Given a c fault
  adopts_after fault two = record {
    cause = λ clean opened unlimited t holds written is.
        later fault (two.cause clean (stayed.1 (honest clean) opened)
        (stayed.0.survives.limit ∙ unlimited) t ((kept a b stayed.0).spared.holds t holds) written
        is);
  }

  pub err_adopts_after : {A : Type 0} (r : Result A AdoptFault) → IfErr r (AdoptFailsIf Given b c)
      → IfErr r (AdoptFailsIf Given a c)
  err_adopts_after (Ok x) it = tt
  err_adopts_after (Err fault) it = adopts_after fault it

pub any_adopts : (Given : Tables → Type 0) (old new : State) (fault : AdoptFault)
    → AdoptFailsIf (λ t. Unit {0}) old new fault → AdoptFailsIf Given old new fault
any_adopts Given old new fault it = record {
  cause = λ clean opened unlimited t holds written is.
      it.cause clean opened unlimited t holds written tt;
}
