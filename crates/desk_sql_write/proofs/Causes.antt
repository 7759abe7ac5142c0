-- A fault that has a cause still has it if more was done before or after, and a commit fails only
-- for a cause.
use Rattle.std.proofs.Common.{inl, inr, IsTrue, refl, arith}
use Rattle.sqlite_trees.specs.Tree.{Trees}
use Rattle.sqlite_trees.specs.declared.error.StoreError.TheVariants as store
use Rattle.sqlite.specs.declared.error.Error.{Error}
use Rattle.sqlite.specs.State.{State, Survives}
use Rattle.sqlite.specs.Steps.{FailsToCommit}
use Rattle.desk_model.specs.declared.command.Fault.{Fault}
use Rattle.desk_sql_layout.specs.Faults.{fault_by}
use Rattle.desk_sql_write.specs.Taking.{IsCaused}

pub later_caused : (a b c : State) (P : Trees → Type 0) (fault : Fault) → Survives b c P
    → IsCaused a b fault → IsCaused a c fault
later_caused a b c P fault s (inl memory) = inl memory
later_caused a b c P fault s (inr more) = inr (more.0, omega (arith, s.counts, more.1))

pub first_caused : (a b c : State) (fault : Fault) → Survives a b (λ _. ⊥) → IsCaused b c fault
    → IsCaused a c fault
first_caused a b c fault s (inl memory) = inl memory
first_caused a b c fault s (inr more) = inr (more.0, omega (arith, s.counts, more.1))

pub ends_caused : (last new : State) (e : Error) → IsTrue last.is_open → IsTrue last.in_transaction
    → FailsToCommit last new e → IsCaused last new (fault_by e)
ends_caused last new e opened inside (inl (store.OutOfMemory, is, cause, back, tells)) = inl (rw is
    refl)
ends_caused last new e opened inside (inl (store.Io, is, cause, back, tells)) = inr (
  rw is refl,
  cause,
)
ends_caused last new e opened inside (inl (store.Corrupt, is, cause, back, tells)) = inr (
  rw is refl,
  cause,
)
ends_caused last new e opened inside (inl (store.Full, is, cause, back, tells)) = inr (
  rw is refl,
  cause,
)
ends_caused last new e opened inside (inl (
  store.Broken,
  is,
  cause,
  back,
  tells,
)) = absurd (let shut = rw cause at opened in cc)
ends_caused last new e opened inside (inl (store.Unstorable, is, cause, back, tells)) = absurd cause
ends_caused last new e opened inside (inr (is, none, same)) = absurd (let no = rw none at inside in
    cc)
