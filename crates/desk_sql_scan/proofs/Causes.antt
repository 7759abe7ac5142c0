-- Reading all rows of a table fails only for a cause.
use Rattle.std.proofs.Common.{◌≡◌, ◌⊎◌, inl, inr, ℕ, List, [], IfErr, Option, Some, None, Ok, Err}
use Rattle.std.proofs.Common.{Result, sym, subst, ◌∙◌, arith}
use Rattle.std.specs.Prelude.{IsSome}
use Rattle.std.proofs.lemmas.Result.{IfErr-weaker}
use Rattle.sqlite.specs.declared.error.Error.{Error}
use Rattle.sqlite.specs.State.{State, HasCleanDisk, FailsToQuery, IsTooLate}
use Rattle.desk_model.specs.declared.command.Fault.{Fault}
use Rattle.desk_sql_layout.specs.Faults.{fault_by}
use Rattle.desk_sql_layout.specs.Held.{Holds}
use Rattle.desk_sql_layout.specs.Causes.{HasCause, IsAsked}
use Rattle.desk_sql_layout.proofs.Causes.{caused}
use Rattle.desk_sql_layout.proofs.Clean.{clean_before}
use Rattle.desk_sql_adopt.specs.Reading.{Asks}
use Rattle.desk_sql_scan.specs.Asked.{HasAsked}
use Rattle.desk_sql_scan.specs.Causes.{ScanFailsFor}
use Rattle.desk_sql_scan.proofs.Asked.{Stays}

-- a query that failed
pub failed_scan : (sql : List ℕ) (old new : State) → IsAsked sql [] → (e : Error)
    → (HasCleanDisk new → FailsToQuery sql [] old new e) → ScanFailsFor old new (fault_by e)
failed_scan sql old new asked e fails = record {
  cause = λ clean opened unlimited t holds written any. caused sql [] old new holds.rows.declared
      opened unlimited asked e (fails clean);
}

none_some : {A : Type 0} (what : Option A) → what ≡ None → ¬ IsSome what
none_some None is some = absurd (cc)
none_some (Some x) is some = absurd (cc)

-- and one inside a transaction, which is never too late, since it writes nothing
pub failed_scan_inside : (sql : List ℕ) (old new : State) → Asks sql → IsAsked sql [] → (e : Error)
    → (HasCleanDisk new → FailsToQuery sql [] old new e ⊎ IsTooLate sql [] old new e)
    → ScanFailsFor old new (fault_by e)
failed_scan_inside sql old new bare asked e fails = failed_scan sql old new asked e
    (λ clean. in_time (fails clean))
  where
    in_time : FailsToQuery sql [] old new e ⊎ IsTooLate sql [] old new e
        → FailsToQuery sql [] old new e
    in_time (inl failed) = failed
    in_time (inr late) = absurd (none_some late.0.returning (bare old.now.schema late.0 late.1.is)
        late.2)

-- a call after another one failed
pub scan_after : (a b c : State) → Stays a b → (HasCleanDisk c → HasCleanDisk b) → (fault : Fault)
    → ScanFailsFor b c fault → ScanFailsFor a c fault
scan_after a b c one honest fault two = record {
  cause = λ clean opened unlimited t holds written any.
      let same = one.1 (honest clean) in
      elim (two.cause clean same.0.is_open (one.0.limit ∙ unlimited) t
      (subst (Holds t) (sym same.0.now_is) holds) written tt) [
        | inl memory ↦ inl memory
        | inr more ↦ inr (more.0, omega (arith, one.0.counts, more.1))
      ];
}

-- the disk was clean before what was asked
pub asked_clean : {A : Type 0} (old new : State) (r : Result A Fault) → HasAsked old new r
    → HasCleanDisk new → HasCleanDisk old
asked_clean old new (Ok x) it = clean_before old new (λ _. ⊥) it.0
asked_clean old new (Err e) it = clean_before old new (λ _. ⊥) it.survives

-- for a connection outside a transaction
pub scan_cause : (old new : State) → (HasCleanDisk new → HasCleanDisk old)
    → {A : Type 0} (r : Result A Fault) → IfErr r (ScanFailsFor old new)
    → IfErr r (HasCause old new)
scan_cause old new honest r = IfErr-weaker r (ScanFailsFor old new) (HasCause old new)
    (λ fault has. record {
      cause = λ clean opened unlimited t holds written any. has.cause clean opened unlimited t
          (holds (honest clean) opened).holds written tt;
    })
