-- A look-up of a store finds, and fails, as the look-up in its tables does.
use Rattle.std.proofs.Common.{◌≡◌, ◌∙◌, Err, Ok, Result, inl}
use Rattle.std.specs.Prelude.{IfErr, IfOk}
use Rattle.std.specs.Result.{IsErrAnd}
use Rattle.std.proofs.lemmas.Result.{IfErr-weaker, IfOk-weaker}
use Rattle.sqlite_trees.specs.Tree.{Trees}
use Rattle.sqlite_trees.specs.declared.store.Store.{Ghosts}
use Rattle.sqlite.specs.Held.{Held, state}
use Rattle.sqlite.specs.State.{State}
use Rattle.desk_model.specs.Tables.{Tables}
use Rattle.desk_model.specs.declared.command.Fault.{Fault}
use Rattle.desk_model.specs.declared.command.Fault.TheVariants.{Memory}
use Rattle.desk_access.specs.Seen.{Kept, Looked, OfRows, Same, Seen}
use Rattle.desk_access.proofs.Chains.{same_self}
use Rattle.desk_sql_layout.specs.Held.{Known, known_of, seen_of}
use Rattle.desk_sql_layout.specs.Causes.{HasCauseIf}
use Rattle.desk_sql_lookup.specs.LookUps.{LooksUp, LooksUpGiven, LooksUpIf}
use Rattle.desk_tally.specs.declared.tallies.Tallies.{Tallies}
use Rattle.desk_store.specs.Causes.{FindsGiven, MissesIf}
use Rattle.desk_store.specs.Counting.{tallied}
use Rattle.desk_sql_cache.specs.Found.{AreFound}
use Rattle.desk_sql_cache.specs.declared.found.Found.{Found}
use Rattle.desk_store.proofs.Counted.{looked, same}

pub missed : (Given Is : Tables → Type 0) (had : Found) (n : Tallies) (k : Known) (a b : State)
    → ((t : Tables) → known_of t ≡ k → Given t → Is t) → {A : Type 0} (r : Result A Fault)
    → IfErr r (HasCauseIf Is a b)
    → IfErr r (MissesIf Given (tallied had n k (seen_of a)) a b)
missed Given Is had n k a b right r = IfErr-weaker r (HasCauseIf Is a b)
    (MissesIf Given (tallied had n k (seen_of a)) a b) (λ fault has. record {
      cause = λ clean opened unlimited t holds written so. has.cause clean opened unlimited t
          holds.2
          written (right t holds.0 so);
    })

module _ {S : Type 0} (g : Ghosts S) (had : Found) (n : Tallies) (k : Known)
    (a b : Held S) {A : Type 0} (r : Result A Fault) where
  -- if the counts are right
  pub finds_so : {Is : Tables → Type 0} {Told : A → Tables → Type 0} → LooksUpGiven g Is a b r Told
      → (Given : Tables → Type 0) (Has : A → Tables → Type 0)
      → ((t : Tables) → known_of t ≡ k → Given t → Is t)
      → ((x : A) (t : Tables) → known_of t ≡ k → Told x t → Has x t)
      → FindsGiven Given (tallied had n k (seen_of (state g a)))
      (tallied had n k (seen_of (state g b))) (state g a) (state g b) r Has
  finds_so {Is} it Given Has right so = record {
    found = IfOk-weaker r _ _ (λ x is clean t holds. so x t holds.0 (is clean t holds.2)) it.found;
    kept = looked had n k (seen_of (state g a)) (seen_of (state g b)) r it.kept;
    cause = missed Given Is had n k (state g a) (state g b) right r it.cause;
  }

  pub finds : {Has : A → Tables → Type 0} → LooksUp g a b r Has
      → FindsGiven (λ t. Unit {0}) (tallied had n k (seen_of (state g a)))
      (tallied had n k (seen_of (state g b))) (state g a) (state g b) r Has
  finds {Has} it = finds_so it (λ t. Unit {0}) Has (λ t same any. any) (λ x t same is. is)

  pub finds_if : {Given : Tables → Type 0} {Has : A → Tables → Type 0} → LooksUpIf g Given a b r Has
      → ((t : Tables) → known_of t ≡ k → Given t)
      → FindsGiven (λ t. Unit {0}) (tallied had n k (seen_of (state g a)))
      (tallied had n k (seen_of (state g b))) (state g a) (state g b) r Has
  finds_if {Has = Has} it right = finds_so it (λ t. Unit {0}) Has (λ t same any. right t same)
      (λ x t same is. is (right t same))

-- no memory was left before anything was asked
pub lacks_first : {S : Type 0} (g : Ghosts S) (had : Found) (n : Tallies) (k : Known)
    (a : Held S) {A : Type 0} (r : Result A Fault) (Given : Tables → Type 0)
    (Has : A → Tables → Type 0) → IsErrAnd r (λ e. e ≡ Memory)
    → FindsGiven Given (tallied had n k (seen_of (state g a)))
    (tallied had n k (seen_of (state g a))) (state g a) (state g a) r Has
lacks_first g had n k a (Ok x) Given Has is = absurd is
lacks_first g had n k a (Err fault) Given Has is = record {
  found = tt;
  kept = (same_self (tallied had n k (seen_of (state g a)))).kept;
  cause = record { cause = λ clean opened unlimited t holds written so. inl is };
}

-- no memory was left after a look-up
pub lacks_then : {S : Type 0} (g : Ghosts S) (had : Found) (n : Tallies) (k : Known)
    (a b : Held S) {A : Type 0} (r : Result A Fault) (Given : Tables → Type 0)
    (Has : A → Tables → Type 0) → Same (seen_of (state g a)) (seen_of (state g b))
    → (fault : Fault) → fault ≡ Memory → IsErrAnd r (λ e. e ≡ fault)
    → FindsGiven Given (tallied had n k (seen_of (state g a)))
    (tallied had n k (seen_of (state g b))) (state g a) (state g b) r Has
lacks_then g had n k a b (Ok x) Given Has still fault memory is = absurd is
lacks_then g had n k a b (Err told) Given Has still fault memory is = record {
  found = tt;
  kept = (same had n k (seen_of (state g a)) (seen_of (state g b)) still).kept;
  cause = record { cause = λ clean opened unlimited t holds written so. inl (is ∙ memory) };
}

-- something else that is true of the same rows is kept, before anything is asked
module _ (had has : Found) (n : Tallies) (k : Known)
    (more : (t : Tables) → AreFound had t → AreFound has t) (s : Seen Trees) where
  before : (t : Tables) → (tallied had n k s).holds t → (tallied has n k s).holds t
  before t holds = (holds.0, holds.1, holds.2, λ honest. more t (holds.3 honest))

  kept_noted : (e : Seen Trees) → Kept (tallied has n k s) e → Kept (tallied had n k s) e
  kept_noted e it = record {
    spared = record {
      honest = it.spared.honest;
      holds = λ t holds. it.spared.holds t (before t holds);
      outlasts = record { counts = it.spared.outlasts.counts; closes = it.spared.outlasts.closes };
    };
    leaves = λ honest is t holds x left. it.leaves honest is t (before t holds) x left;
  }

  looked_noted : {A : Type 0} (e : Seen Trees) (r : Result A Fault) → Looked (tallied has n k s) e r
      → Looked (tallied had n k s) e r
  looked_noted e (Ok x) it = record { kept = kept_noted e it.kept; stays = it.stays }
  looked_noted e (Err fault) it = kept_noted e it

  pub finds_noted : {A : Type 0} (Given : Tables → Type 0) (Has : A → Tables → Type 0)
      (e : Seen Trees) (a b : State) (r : Result A Fault)
      → FindsGiven Given (tallied has n k s) e a b r Has
      → FindsGiven Given (tallied had n k s) e a b r Has
  finds_noted Given Has e a b r it = record {
    found = IfOk-weaker r _ _ (λ x is clean t holds. is clean t (before t holds)) it.found;
    kept = looked_noted e r it.kept;
    cause = IfErr-weaker r (MissesIf Given (tallied has n k s) a b)
        (MissesIf Given (tallied had n k s) a b)
        (λ fault it. record {
          cause = λ clean opened unlimited t holds written so. it.cause clean
              opened unlimited t (before t holds) written so;
        }) it.cause;
  }

  -- nothing else is asked
  pub noted_alone : {A : Type 0} (Given : Tables → Type 0) (Has : A → Tables → Type 0) (a : State)
      (r : Result A Fault) → IfOk r (λ x. OfRows (Has x) (tallied has n k s) (tallied has n k s))
      → IfErr r (λ fault. fault ≡ Memory)
      → FindsGiven Given (tallied had n k s) (tallied has n k s) a a r Has
  noted_alone Given Has a (Ok x) found memory =
      finds_noted Given Has (tallied has n k s) a a (Ok x)
      (record { found = found; kept = same_self (tallied has n k s); cause = tt })
  noted_alone Given Has a (Err fault) found memory =
      finds_noted Given Has (tallied has n k s) a a (Err fault) (record {
        found = tt;
        kept = (same_self (tallied has n k s)).kept;
        cause = record { cause = λ clean opened unlimited t holds written so. inl memory };
      })
