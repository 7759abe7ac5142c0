-- What contracts see of a connection that was only read.
use Rattle.std.proofs.Common.{◌⊎◌, inl, inr, ℕ, List, Ok, Err, Result, sym, subst, ◌∙◌}
use Rattle.std.specs.Result.{IsErr}
use Rattle.sqlite_trees.specs.Tree.{Trees}
use Rattle.sqlite_value.specs.Order.{Row}
use Rattle.sqlite.specs.State.{State, HasCleanDisk, Shown}
use Rattle.sqlite.proofs.StateLemmas.{survives_then}
use Rattle.desk_model.specs.declared.command.Fault.{Fault}
use Rattle.desk_model.specs.Tables.{Tables}
use Rattle.desk_access.specs.Seen.{Kept, Looked, OfRows}
use Rattle.desk_sql_layout.specs.Held.{Holds, seen_of}
use Rattle.desk_sql_layout.proofs.Clean.{clean_before}
use Rattle.desk_sql_adopt.specs.Reading.{Asks, IsSpared, HasRead}
use Rattle.desk_sql_adopt.proofs.Asking.{shown_unchanged}

pub kept : (old new : State) → IsSpared old new → Kept (seen_of old) (seen_of new)
kept old new s = record {
  spared = record {
    honest = clean_before old new (λ _. ⊥) s.survives;
    holds = λ t holds clean is.
        let shows = holds (clean_before old new (λ _. ⊥) s.survives clean) (s.was_open clean is) in
        record {
          holds = subst (Holds t) (sym (s.now clean is)) shows.holds;
          settled = s.committed clean is ∙ shows.settled ∙ sym (s.now clean is);
        };
    outlasts = record { counts = s.survives.counts; closes = s.survives.closes };
  };
  leaves = λ clean is t holds x left. one x (s.survives.crash clean x left);
}
  where
    one : (x : Trees) → old.may_leave x ⊎ ⊥ → old.may_leave x
    one x (inl was) = was
    one x (inr none) = absurd none

pub looked : {A : Type 0} (old new : State) (r : Result A Fault) → HasRead old new r
    → Looked (seen_of old) (seen_of new) r
looked old new (Ok x) it = record { kept = kept old new it.0; stays = it.1 }
looked old new (Err e) it = kept old new it

-- a fault that is returned
pub err_read : {A : Type 0} (old new : State) (r : Result A Fault) → IsErr r → IsSpared old new
    → HasRead old new r
err_read old new (Ok x) is it = absurd (cc)
err_read old new (Err e) is it = it

pub spared_then : (a b c : State) → IsSpared a b → IsSpared b c → IsSpared a c
spared_then a b c p q =
    let before = clean_before b c (λ _. ⊥) q.survives in
    record {
      survives = survives_then a b c (λ _. ⊥) (λ _. ⊥) (λ _. ⊥) (λ _ db none. none)
          (λ _ db none. none) p.survives q.survives;
      was_open = λ clean is. p.was_open (before clean) (q.was_open clean is);
      now = λ clean is. q.now clean is ∙ p.now (before clean) (q.was_open clean is);
      committed = λ clean is. q.committed clean is
          ∙ p.committed (before clean) (q.was_open clean is);
    }

-- what a query showed is true of the tables that were held
pub of_shown : (sql : List ℕ) (params : Row) (old new : State) → Asks sql
    → (rows : List Row) (Is : Tables → Type 0) → IsSpared old new
    → (HasCleanDisk new → Shown sql params old new rows)
    → ((t : Tables) → Shown sql params old new rows → Holds t old.now → Is t)
    → OfRows Is (seen_of old) (seen_of new)
of_shown sql params old new bare rows Is spared shown right = λ clean t holds.
    right t (shown clean) (holds (clean_before old new (λ _. ⊥) spared.survives clean)
    (shown_unchanged sql params old new bare rows (shown clean)).0.was_open).holds
