-- What contracts see of a store that keeps counts and tallies beside its tables.
use Rattle.std.proofs.Common.{◌≡◌, ◌⊎◌, ◌∙◌, ℕ, List, sym, subst, ap, refl, Bool, inl, inr, Ok, Err}
use Rattle.std.proofs.Common.{Result, Option, Some, None, false}
use Rattle.std.specs.Prelude.{IsTrue, IfSome, IfNone, OnErr, OnOk}
use Rattle.std.specs.Result.{is_ok}
use Rattle.sqlite_trees.specs.Tree.{Trees}
use Rattle.sqlite.specs.State.{State, HasCleanDisk}
use Rattle.desk_model.specs.Keys.{release_below}
use Rattle.desk_model.specs.Tables.{Tables, applied}
use Rattle.desk_history.specs.Laws.{Ascends}
use Rattle.desk_tally.specs.Kept.{AreKept}
use Rattle.desk_tally.specs.declared.tallies.Tallies.{Tallies}
use Rattle.desk_model.specs.declared.command.Change.{Change}
use Rattle.desk_model.specs.declared.command.Change.TheVariants as change
use Rattle.desk_store.specs.Counting.{known_by, counts_after, forms_after, forms_noted, tallied}
use Rattle.desk_sql_cache.specs.Found.{AreFound, nothing_kept}
use Rattle.desk_beside.specs.declared.counts.Counts.{Counts}
use Rattle.desk_sql_cache.specs.declared.found.Found.{Found}
use Rattle.desk_model.specs.declared.command.Fault.{Fault}
use Rattle.desk_access.specs.Follows.{Follows}
use Rattle.desk_access.specs.Seen.{Seen, Outlasts, Kept, Same, Looked, OfRows, Made, Failed, Wrote}
use Rattle.desk_access.proofs.Chains.{outlasts_then}
use Rattle.desk_sql_layout.specs.Held.{Known, Stands, known_of, known_after, seen_of}
use Rattle.desk_sql_layout.proofs.Counting.{known_kept}
use Rattle.desk_sql_commit.specs.Committing.{taking}
use Rattle.desk_sql_write.specs.Replacing.{Takes}

-- what is kept beside the rows doesn't affect the disk
beside : (had has : Found) (n m : Tallies) (k l : Known) (a b : Seen Trees) → Outlasts a b
    → Outlasts (tallied had n k a) (tallied has m l b)
beside had has n m k l a b it = record { counts = it.counts; closes = it.closes }

-- if nothing was found, that is true of any tables
pub nothing_found : (has : Found) → has ≡ nothing_kept → (t : Tables) → AreFound has t
nothing_found has none t = subst (λ (f : Found). AreFound f t) (sym none)
    (tt, tt, record { document = tt; rule = tt; conclusions = tt; choices = tt })

-- ---- look-ups

module _ (had : Found) (n : Tallies) (k : Known) where
  pub kept : (a b : Seen Trees) → Kept a b → Kept (tallied had n k a) (tallied had n k b)
  kept a b it = record {
    spared = record {
      honest = it.spared.honest;
      holds = λ t holds. (
        holds.0,
        holds.1,
        it.spared.holds t holds.2,
        λ honest. holds.3 (it.spared.honest honest),
      );
      outlasts = beside had had n n k k a b it.spared.outlasts;
    };
    leaves = λ honest is t holds x left. it.leaves honest is t holds.2 x left;
  }

  pub same : (a b : Seen Trees) → Same a b → Same (tallied had n k a) (tallied had n k b)
  same a b it = record { kept = kept a b it.kept; stays = it.stays }

  pub looked : {A : Type 0} (a b : Seen Trees) (r : Result A Fault) → Looked a b r
      → Looked (tallied had n k a) (tallied had n k b) r
  looked a b (Ok x) it = same a b it
  looked a b (Err fault) it = kept a b it

  pub of_rows : (P : Tables → Type 0) (a b : Seen Trees) → OfRows P a b
      → OfRows P (tallied had n k a) (tallied had n k b)
  of_rows P a b it = λ honest t holds. it honest t holds.2

  -- what is found if the counts are right
  pub of_counted : (Q P : Tables → Type 0) (a b : Seen Trees)
      → ((t : Tables) → known_of t ≡ k → Q t) → OfRows (λ t. Q t → P t) a b
      → OfRows P (tallied had n k a) (tallied had n k b)
  of_counted Q P a b right it = λ honest t holds. it honest t holds.2 (right t holds.0)

  -- what was looked up is kept
  pub found : (has : Found) (a b : Seen Trees) → Same a b
      → OfRows (λ t. known_of t ≡ k → AreKept n t → AreFound had t → AreFound has t) a b
      → Same (tallied had n k a) (tallied has n k b)
  found has a b it are = record {
    kept = record {
      spared = record {
        honest = it.kept.spared.honest;
        holds = λ t holds. (
          holds.0,
          holds.1,
          it.kept.spared.holds t holds.2,
          λ honest. are honest t holds.2 holds.0 holds.1 (holds.3 (it.kept.spared.honest honest)),
        );
        outlasts = beside had has n n k k a b it.kept.spared.outlasts;
      };
      leaves = λ honest is t holds x left. it.kept.leaves honest is t holds.2 x left;
    };
    stays = it.stays;
  }

-- ---- a change

known_is : (c : Change) (counts : Counts) (forms : List (List ℕ))
    → known_after c (known_by counts forms) ≡ known_by (counts_after c counts) (forms_after c forms)
known_is (change.Loaded row rules given) counts forms = refl
known_is (change.Imported row packages references) counts forms = refl
known_is (change.Opened row) counts forms = refl
known_is (change.Attached row) counts forms = refl
known_is (change.Chosen r d p rows) counts forms = refl
known_is (change.Froze r revision rows duties changes) counts forms = refl
known_is (change.Moved moved) counts forms = refl
known_is (change.Withdrew r moved) counts forms = refl
known_is (change.Concluded row) counts forms = refl
known_is (change.Adopted row) counts forms = refl

-- the releases of a desk's tables are in order
ascend : (s : State) (t : Tables) → HasCleanDisk s → IsTrue s.is_open → (seen_of s).holds t
    → Ascends release_below t.releases
ascend s t clean is holds = (holds clean is).holds.orderly.sorted.releases

-- the tables that a store holds are as its change requires
taken : (c : Change) (had : Found) (n : Tallies) (k : Known) (is_new : Bool)
    → ((t : Tables) → AreFound had t → Takes is_new c t)
    → (a b : Seen Trees) → Same a b → (t : Tables) → (tallied had n k a).holds t
    → (taking is_new c b).holds t
taken c had n k is_new takes a b still t holds = (
  λ honest. takes t (holds.3 (still.kept.spared.honest honest)),
  still.kept.spared.holds t holds.2,
)

-- after look-ups that were made for it, a change is written
pub wrote : (c : Change) (had has : Found) (counts after : Counts) (forms : List (List ℕ))
    (n m : Tallies) (a b d : State) → after ≡ counts_after c counts → Same (seen_of a) (seen_of b)
    → (is_new : Bool) → ((t : Tables) → AreFound had t → Takes is_new c t)
    → Made Stands c (taking is_new c (seen_of b)) (seen_of d)
    → (HasCleanDisk d → (t : Tables) → (seen_of a).holds t
    → Ascends release_below (applied c t).releases → AreKept n t → AreKept m (applied c t))
    → (HasCleanDisk d → (t : Tables) → (seen_of a).holds t
    → Ascends release_below (applied c t).releases → Follows c t → AreFound had t
    → AreFound has (applied c t))
    → Made Stands c (tallied had n (known_by counts forms) (seen_of a))
    (tallied has m (known_by after (forms_after c forms)) (seen_of d))
wrote c had has counts after forms n m a b d are still is_new takes it leads more = record {
  honest = λ clean. still.kept.spared.honest (it.honest clean);
  outlasts = beside had has n m (known_by counts forms) (known_by after (forms_after c forms))
      (seen_of a) (seen_of d)
      (outlasts_then (seen_of a) (seen_of b) (seen_of d) it.honest still.kept.spared.outlasts
      (record { counts = it.outlasts.counts; closes = it.outlasts.closes }));
  stays = it.stays;
  holds = λ clean t holds follows.
      let shown = it.holds clean t (mid t holds) follows in
      let up = ascend d (applied c t) clean (it.stays clean) shown in (
        known_kept c t ∙ (ap (known_after c) holds.0
            ∙ (known_is c counts forms ∙ ap (λ (n : Counts). known_by n (forms_after c forms))
            (sym are))),
        leads clean t holds.2 up holds.1,
        shown,
        λ honest. more clean t holds.2 up follows
            (holds.3 (still.kept.spared.honest (it.honest clean))),
      );
  leaves = λ clean t holds follows x left. it.leaves clean t (mid t holds) follows x left;
}
  where
    mid : (t : Tables) → (tallied had n (known_by counts forms) (seen_of a)).holds t
        → (taking is_new c (seen_of b)).holds t
    mid t holds = taken c had n (known_by counts forms) is_new takes (seen_of a) (seen_of b) still t
        holds

pub failed : (c : Change) (had has : Found) (k : Known) (n m : Tallies) (a b d : Seen Trees)
    → ((t : Tables) → AreFound has t) → ((t : Tables) → AreKept n t → AreKept m t) → Same a b
    → (is_new : Bool) → ((t : Tables) → AreFound had t → Takes is_new c t)
    → Failed Stands c (taking is_new c b) d
    → Failed Stands c (tallied had n k a) (tallied has m k d)
failed c had has k n m a b d none kept still is_new takes it = record {
  spared = record {
    honest = λ honest. still.kept.spared.honest (it.spared.honest honest);
    holds = λ t holds. (holds.0, kept t holds.1, it.spared.holds t (mid t holds), λ honest. none t);
    outlasts = beside had has n m k k a d
        (outlasts_then a b d it.spared.honest still.kept.spared.outlasts
        (record { counts = it.spared.outlasts.counts; closes = it.spared.outlasts.closes }));
  };
  leaves = λ honest is t holds follows x left.
      let before = it.spared.honest honest in
      either x (λ was. still.kept.leaves before is t holds.2 x was)
      (it.leaves honest (still.stays before is) t (mid t holds) follows x left);
}
  where
    mid : (t : Tables) → (tallied had n k a).holds t → (taking is_new c b).holds t
    mid t holds = taken c had n k is_new takes a b still t holds

    either : {P Q R : Type 0} (x : Trees) → (P → Q) → P ⊎ R → Q ⊎ R
    either x f (inl p) = inl (f p)
    either x f (inr r) = inr r

-- nothing is written if a look-up failed or there was no step, and nothing that was found is kept
pub left : (c : Change) (had has : Found) (k : Known) (n m : Tallies) (a b : Seen Trees)
    → ((t : Tables) → AreFound has t) → ((t : Tables) → AreKept n t → AreKept m t) → Kept a b
    → Failed Stands c (tallied had n k a) (tallied has m k b)
left c had has k n m a b none kept it = record {
  spared = record {
    honest = it.spared.honest;
    holds = λ t holds. (holds.0, kept t holds.1, it.spared.holds t holds.2, λ honest. none t);
    outlasts = beside had has n m k k a b it.spared.outlasts;
  };
  leaves = λ honest is t holds follows x left. inl (it.leaves honest is t holds.2 x left);
}

pub on_err : (r : Result (Unit {0}) Fault) (P : Type 0) → P → OnErr r P
on_err (Ok x) P it = tt
on_err (Err fault) P it = it

-- the forms are kept if the change was written
pub noted : (c : Change) (old s : Seen Trees) (has : Found) (m : Tallies) (counts : Counts)
    (forms now : List (List ℕ)) (r : Result (Unit {0}) Fault) (written : Bool) → written ≡ is_ok r
    → now ≡ forms_noted written c forms
    → OnOk r (Made Stands c old (tallied has m (known_by counts (forms_after c forms)) s))
    → OnErr r (Failed Stands c old (tallied has m (known_by counts forms) s))
    → Wrote Stands c old (tallied has m (known_by counts now) s) r
noted c old s has m counts forms now (Ok x) written e f made failed = rw (f, e) made
noted c old s has m counts forms now (Err fault) written e f made failed = rw (f, e) failed
