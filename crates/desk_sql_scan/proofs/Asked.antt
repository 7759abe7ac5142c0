-- What one request for rows after another does.
use Rattle.std.proofs.Common.{◌≡◌, ◌⊎◌, inl, inr, ◌∙◌, Ok, Err, Result, IsTrue, List, ℕ, sym}
use Rattle.desk_sql_layout.proofs.Clean.{clean_before}
use Rattle.sqlite_value.specs.Order.{Row}
use Rattle.sqlite.specs.declared.error.Error.{Error}
use Rattle.sqlite.specs.State.{State, HasCleanDisk, FailsToQuery, IsRolledBack, IsTooLate}
use Rattle.sqlite.specs.State.{IsUnchanged, KeepsCommit, Survives}
use Rattle.sqlite.proofs.InsideLemmas.{keeps_then}
use Rattle.sqlite.proofs.StateLemmas.{survives_then}
use Rattle.desk_model.specs.declared.command.Fault.{Fault}
use Rattle.desk_sql_adopt.specs.Reading.{Asks, HasRead}
use Rattle.desk_sql_adopt.proofs.Asking.{failed_so}
use Rattle.desk_sql_adopt.specs.Reading as reading
use Rattle.desk_sql_scan.specs.Asked.{IsSettled, IsSpared, HasAsked}

abbrev pub Stays : State → State → Type 0
Stays a b = Survives a b (λ _. ⊥) × (HasCleanDisk b → IsUnchanged a b)

unchanged_is_kept : (a b : State) → IsUnchanged a b → KeepsCommit a b
unchanged_is_kept a b same = record {
  was_open = λ _. same.0.was_open;
  committed = λ _. same.0.committed_is;
}

pub spared_then : (a b c : State) → Stays a b → IsSpared b c → IsSpared a c
spared_then a b c one two =
    let before : HasCleanDisk c → HasCleanDisk b = clean_before b c (λ _. ⊥) two.survives in
    record {
      survives = survives_then a b c (λ _. ⊥) (λ _. ⊥) (λ _. ⊥) (λ _ db none. none)
          (λ _ db none. none) one.0 two.survives;
      kept = λ clean. keeps_then a b c (unchanged_is_kept a b (one.1 (before clean)))
          (two.kept clean);
      now = λ clean settled is.
          let same = one.1 (before clean) in
          two.now clean (λ is. same.0.now_is ∙ settled same.0.was_open ∙ sym same.0.committed_is) is
          ∙ same.0.now_is;
    }

-- if the connection shows only what is committed
pub read_outside : {A : Type 0} (old new : State) (r : Result A Fault) → IsSettled old
    → HasAsked old new r → HasRead old new r
read_outside old new (Ok x) settled it = (
  record {
    survives = it.0;
    was_open = λ clean is. (it.1 clean).0.was_open;
    now = λ clean is. (it.1 clean).0.now_is;
    committed = λ clean is. (it.1 clean).0.committed_is;
  },
  λ clean is. (it.1 clean).0.is_open,
)
read_outside old new (Err e) settled it = record {
  survives = it.survives;
  was_open = λ clean is. (it.kept clean).was_open is;
  now = λ clean is. it.now clean settled is;
  committed = λ clean is. (it.kept clean).committed is;
}

pub spared_outside : (old new : State) → reading.IsSpared old new → IsSpared old new
spared_outside old new it = record {
  survives = it.survives;
  kept = λ clean. record { was_open = it.was_open clean; committed = it.committed clean };
  now = λ clean settled is. it.now clean is;
}

-- a query inside a transaction that failed
module _ (sql : List ℕ) (params : Row) (old new : State) (bare : Asks sql)
    (survives : Survives old new (λ _. ⊥)) where
  left : (e : Error) → FailsToQuery sql params old new e ⊎ IsTooLate sql params old new e
      → IsUnchanged old new ⊎ IsRolledBack old new
  left e (inl fails) = failed_so sql params old new bare e fails
  left e (inr late) = inl late.5

  kept_by : IsUnchanged old new ⊎ IsRolledBack old new → KeepsCommit old new
  kept_by (inl same) = unchanged_is_kept old new same
  kept_by (inr back) = record { was_open = back.was_open; committed = λ is. (back.undone is).1 }

  now_by : IsUnchanged old new ⊎ IsRolledBack old new → IsSettled old → IsTrue new.is_open
      → new.now ≡ old.now
  now_by (inl same) settled is = same.0.now_is
  now_by (inr back) settled is = (back.undone is).0 ∙ sym (settled (back.was_open is))

  pub failed_inside : (e : Error)
      → (HasCleanDisk new → FailsToQuery sql params old new e ⊎ IsTooLate sql params old new e)
      → IsSpared old new
  failed_inside e fails = record {
    survives = survives;
    kept = λ clean. kept_by (left e (fails clean));
    now = λ clean settled is. now_by (left e (fails clean)) settled is;
  }
