-- What a migration leaves, whatever became of its transaction.
use Rattle.std.proofs.Common.{◌≡◌, ◌⊎◌, ◌∙◌, inl, inr, false, IsTrue, Ok, Err, Result, IfOk, IfErr, sym, subst, ap}
use Rattle.std.specs.Prelude.{OnOk}
use Rattle.std.specs.Result.{IsErr}
use Rattle.sqlite_trees.specs.Tree.{Trees}
use Rattle.sqlite.specs.Effect.{Database, IsDatabase}
use Rattle.sqlite.specs.declared.error.Error.{Error}
use Rattle.sqlite.specs.State.{State, HasCleanDisk, IsRolledBack, KeepsCommit, Shows, Survives}
use Rattle.sqlite.specs.Steps.{FailsToCommit}
use Rattle.sqlite.proofs.StateLemmas.{survives_then}
use Rattle.desk_model.specs.Tables.{tables}
use Rattle.desk_model.specs.declared.command.Fault.{Fault}
use Rattle.desk_model.specs.declared.command.Fault.TheVariants.{Memory, Store}
use Rattle.desk_model.specs.declared.command.StoreFault.TheVariants.{Database as DatabaseFault, Rows}
use Rattle.desk_beside.specs.Beside.{report_of}
use Rattle.desk_beside.specs.declared.beside.Audited.{Audited}
use Rattle.desk_beside.specs.declared.beside.Audited.TheVariants as audited
use Rattle.desk_beside.specs.declared.beside.Beside.{Beside}
use Rattle.desk_sql_layout.specs.Held.{HasRows}
use Rattle.desk_sql_layout.proofs.Clean.{clean_before}
use Rattle.desk_sql_adopt.specs.Older.{HasOlder, HoldsOlder, IsOlderContent, migrated}
use Rattle.desk_sql_adopt.specs.Reading.{HasStayed, IsSpared}
use Rattle.desk_sql_adopt.specs.declared.older.OlderVersion.{OlderVersion}
use Rattle.desk_sql_adopt.specs.declared.older.OlderContent.TheVariants as content
use Rattle.desk_sql_adopt.proofs.Spared.{spared_then}
use Rattle.desk_snapshot.specs.declared.fault.AuditReport.{AuditReport}
use Rattle.desk_snapshot.specs.declared.fault.AuditReport.TheVariants.{Sound, Unsound}
use Rattle.desk_sql_migrate.specs.Migrating.{Ends, InOlderHistory, IsFault, IsLeft, IsReason}
use Rattle.desk_sql_migrate.specs.Migrating.{IsReportOn, IsUndone, Leaves}
use Rattle.desk_sql_migrate.specs.Migrating.{LeavesMigrated, LeavesSome, Migrated, Prepared}
use Rattle.desk_sql_migrate.specs.Migrating.{IsKeptBeside, IsKeptIfSound, outcome_of, told_of}
use Rattle.desk_sql_migrate.specs.Steps.{Becomes}
use Rattle.desk_sql_migrate.specs.declared.fault.MigrateFault.{MigrateFault}

weaker : (P : Trees → Type 0) (a b : State) → Survives a b (λ _. ⊥) → Survives a b P
weaker P a b it = record {
  clean = it.clean;
  shield = it.shield;
  counts = it.counts;
  limit = it.limit;
  closes = it.closes;
  crash = λ clean x left. one x (it.crash clean x left);
}
  where
    one : (x : Trees) → a.may_leave x ⊎ ⊥ → a.may_leave x ⊎ P x
    one x (inl was) = inl was
    one x (inr none) = absurd none

pub undone_by : (P : Trees → Type 0) (a b : State) → IsSpared a b → IsUndone P a b
undone_by P a b it = record {
  survives = weaker P a b it.survives;
  was_open = it.was_open;
  now = it.now;
  committed = it.committed;
}

-- after a fault that is returned
pub err_leaves : (version : OlderVersion) (a b : State) (r : Result Audited Fault) → IsErr r
    → IsSpared a b → Leaves version a b (told_of r)
err_leaves version a b (Ok x) is it = absurd (cc)
err_leaves version a b (Err e) is it = undone_by (LeavesMigrated version a) a b it

clean_first : (version : OlderVersion) (b c : State) (r : Result Audited Fault)
    → Leaves version b c (told_of r) → HasCleanDisk c → HasCleanDisk b
clean_first version b c (Ok (audited.Sound kept)) it clean = clean_before b c (LeavesMigrated version b) it clean
clean_first version b c (Ok (audited.Unsound f)) it clean = clean_before b c (λ _. ⊥) it.survives clean
clean_first version b c (Err f) it clean = clean_before b c (LeavesMigrated version b) it.survives
    clean

module _ (old last final : State) (settled : IsTrue old.is_open → old.now ≡ old.committed)
    (first : Survives old last (λ _. ⊥)) (kept : HasCleanDisk last → KeepsCommit old last) where
  back : HasCleanDisk last → IsRolledBack last final → IsTrue final.is_open → IsTrue old.is_open
  back clean undone is = (kept clean).was_open (undone.was_open is)

  now_back : (clean : HasCleanDisk last) (undone : IsRolledBack last final) → IsTrue final.is_open
      → final.now ≡ old.now
  now_back clean undone is = (undone.undone is).0 ∙ (kept clean).committed (undone.was_open is)
      ∙ sym (settled (back clean undone is))

  committed_back : (clean : HasCleanDisk last) (undone : IsRolledBack last final)
      → IsTrue final.is_open → final.committed ≡ old.committed
  committed_back clean undone is = (undone.undone is).1
      ∙ (kept clean).committed (undone.was_open is)

  -- the transaction was dropped
  pub dropped : Survives last final (λ _. ⊥) → (HasCleanDisk final → IsRolledBack last final)
      → IsSpared old final
  dropped next undone =
      let before = clean_before last final (λ _. ⊥) next in
      record {
        survives = survives_then old last final (λ _. ⊥) (λ _. ⊥) (λ _. ⊥) (λ _ db none. none)
            (λ _ db none. none) first next;
        was_open = λ clean is. back (before clean) (undone clean) is;
        now = λ clean is. now_back (before clean) (undone clean) is;
        committed = λ clean is. committed_back (before clean) (undone clean) is;
      }

  module _ (live : IsTrue old.is_open → IsDatabase old.now) (version : OlderVersion)
      (told : AuditReport) (prepared : HasCleanDisk last → Prepared version told old last)
      (next : Survives last final (λ db. db ≡ last.now.trees)) where
    before : HasCleanDisk final → HasCleanDisk last
    before = clean_before last final (λ db. db ≡ last.now.trees) next

    pub left_committed : (told ≡ Sound) → Survives old final (LeavesMigrated version old)
    left_committed is = survives_then old last final (λ _. ⊥) (λ db. db ≡ last.now.trees)
        (LeavesMigrated version old) (λ _ db none. absurd none)
        (λ clean db same. let it = prepared (before clean) in record {
          was_open = it.was_open;
          db = last.now;
          rows = it.rows;
          sound = λ has. subst (IsReportOn last.now) is (it.report has (live it.was_open));
          is = same;
        }) first next

    pub committed_as : (told ≡ Sound)
        → (HasCleanDisk final → Shows last final last.now last.now false) → HasCleanDisk final
        → (IsTrue old.is_open → HasOlder version old.now.schema) → Migrated version old final
    committed_as is shows clean has =
        let it = prepared (before clean) in
        let so = shows clean in
        record {
          was_open = it.was_open;
          is_open = so.is_open;
          settled = so.committed_is ∙ sym so.now_is;
          rows = λ rows given. subst (HasRows (migrated version rows)) (sym so.now_is)
              (it.rows rows given);
          sound = subst (λ (db : Database). IsReportOn db Sound) (sym so.now_is)
              (subst (IsReportOn last.now) is (it.report (has it.was_open) (live it.was_open)));
        }

    moves : (e : Error) → FailsToCommit last final e → IsTrue last.in_transaction
        → IsRolledBack last final
    moves e (inl fails) inside = fails.3
    moves e (inr refused) inside = absurd (let no = sym inside ∙ refused.1 in cc)

    pub commit_failed : (told ≡ Sound) → (e : Error)
        → (HasCleanDisk final → FailsToCommit last final e)
        → IsUndone (LeavesMigrated version old) old final
    commit_failed is e fails =
        let undone = λ (clean : HasCleanDisk final). moves e (fails clean)
        (prepared (before clean)).inside in
        record {
          survives = left_committed is;
          was_open = λ clean is. back (before clean) (undone clean) is;
          now = λ clean is. now_back (before clean) (undone clean) is;
          committed = λ clean is. committed_back (before clean) (undone clean) is;
        }

module _ (a b c : State) (stayed : HasStayed a b) (version : OlderVersion) where
  -- what was shown first is what is migrated
  same_now : HasCleanDisk b → IsTrue b.is_open → b.now ≡ a.now
  same_now clean is = stayed.0.now clean is

  -- a stop leaves the rows of what was shown first
  some_left : HasCleanDisk b → (db : Trees) → LeavesMigrated version b db → LeavesSome a db
  some_left clean db it =
      let now = same_now clean it.was_open in (
        version,
        record {
          was_open = stayed.0.was_open clean it.was_open;
          db = it.db;
          rows = subst (λ (d : Database). Becomes version d it.db) now it.rows;
          sound = λ has. it.sound (subst (λ (d : Database). HasOlder version d.schema) (sym now) has);
          is = it.is;
        },
      )

  pub some_survives : Survives b c (LeavesMigrated version b) → Survives a c (LeavesSome a)
  some_survives it = survives_then a b c (λ _. ⊥) (LeavesMigrated version b) (LeavesSome a)
      (λ _ db none. absurd none) (λ clean db left. some_left
      (clean_before b c (LeavesMigrated version b) it clean) db left) stayed.0.survives it

  -- and what isn't committed is undone to what was shown first
  pub undone_first : IsUndone (LeavesMigrated version b) b c → IsUndone (LeavesSome a) a c
  undone_first it =
      let before = clean_before b c (LeavesMigrated version b) it.survives in
      record {
        survives = some_survives it.survives;
        was_open = λ clean is. stayed.0.was_open (before clean) (it.was_open clean is);
        now = λ clean is. it.now clean is ∙ stayed.0.now (before clean) (it.was_open clean is);
        committed = λ clean is. it.committed clean is
            ∙ stayed.0.committed (before clean) (it.was_open clean is);
      }

  pub ended : (told : AuditReport) → HasCleanDisk b → IsTrue b.is_open → Ends version b c told
      → Ends version a c told
  ended Sound clean is it = record {
    was_open = stayed.0.was_open clean it.was_open;
    is_open = it.is_open;
    settled = it.settled;
    rows = subst (λ (d : Database). Becomes version d c.now) (same_now clean is) it.rows;
    sound = it.sound;
  }
  ended (Unsound f) clean is it = (
    it.0,
    subst (λ (d : Database). Becomes version d it.0) (same_now clean is) it.1,
    it.2,
  )

  left_by : (r : Result Audited Fault) → Leaves version b c (told_of r)
      → IfErr (outcome_of version r) (IsLeft a c)
  left_by (Ok (audited.Sound kept)) it = tt
  left_by (Ok (audited.Unsound f)) it = spared_then a b c stayed.0 it
  left_by (Err f) it = undone_first it

  survives_by : (r : Result Audited Fault) → Leaves version b c (told_of r)
      → OnOk (outcome_of version r) (Survives a c (LeavesSome a))
  survives_by (Ok (audited.Sound kept)) it = some_survives it
  survives_by (Ok (audited.Unsound f)) it = tt
  survives_by (Err f) it = tt

  reason_by : (r : Result Audited Fault) → IsOlderContent a (content.Older version)
      → HasCleanDisk b → IfOk r (λ found. Ends version b c (report_of found))
      → IfErr (outcome_of version r) (IsReason a)
  reason_by (Ok (audited.Sound kept)) older clean it = tt
  reason_by (Ok (audited.Unsound f)) older clean it = inr (
    version,
    older,
    λ is. ended (Unsound f) clean (stayed.1 clean is) it,
  )
  reason_by (Err Memory) older clean it = tt
  reason_by (Err (Store DatabaseFault)) older clean it = tt
  reason_by (Err (Store Rows)) older clean it = (version, older)

  migrated_by : (r : Result Audited Fault) → IsOlderContent a (content.Older version)
      → HasCleanDisk b → IfOk r (λ found. Ends version b c (report_of found))
      → IfOk (outcome_of version r)
      (λ made. IsOlderContent a (content.Older made.0) × Migrated made.0 a c)
  migrated_by (Ok (audited.Sound kept)) older clean it = (older, ended Sound clean it.was_open it)
  migrated_by (Ok (audited.Unsound f)) older clean it = tt
  migrated_by (Err f) older clean it = tt

  kept_by : (r : Result Audited Fault) → IfOk r (IsKeptIfSound c.now)
      → IfOk (outcome_of version r) (λ made. IsKeptBeside c.now made.1)
  kept_by (Ok (audited.Sound kept)) it = it
  kept_by (Ok (audited.Unsound f)) it = tt
  kept_by (Err f) it = tt

  -- an older version of a history is taken for what it is
  abbrev pub IsTold : Type 0
  IsTold = (other : OlderVersion) → InOlderHistory other (λ w h. version ≡ other) a b

  history_by : (r : Result Audited Fault) → Leaves version b c (told_of r) → IsTold
      → IfOk (outcome_of version r) (λ made. (other : OlderVersion)
      → InOlderHistory other (λ w h. made.0 ≡ other) a c)
  history_by (Ok (audited.Sound kept)) left told = λ other w right clean is h ok holds.
      told other w right (clean_first version b c (Ok (audited.Sound kept)) left clean) is h ok
      holds
  history_by (Ok (audited.Unsound f)) left told = tt
  history_by (Err f) left told = tt

  faults_by : (r : Result Audited Fault) → Leaves version b c (told_of r) → IsTold
      → IfOk r (λ found. InOlderHistory version (λ w h. report_of found ≡ Sound) b c)
      → IfErr (outcome_of version r) (λ fault. (other : OlderVersion)
      → InOlderHistory other (λ w h. IsFault fault) a c)
  faults_by (Ok (audited.Sound kept)) left told sound = tt
  faults_by (Ok (audited.Unsound f)) left told sound = λ other w right clean is h ok holds.
      let before = clean_first version b c (Ok (audited.Unsound f)) left clean in
      let opened = stayed.1 before is in
      let same = told other w right before is h ok holds in
      let here = subst (λ (d : Database). HoldsOlder version (tables w h) d)
      (sym (same_now before opened))
      (subst (λ v. HoldsOlder v (tables w h) a.now) (sym same) holds) in
      absurd (let no = sound w right clean opened h ok here in cc)
  faults_by (Err f) left told sound = λ other w right clean is h ok holds. tt

  -- a stop leaves what was committed
  abbrev pub StopsAt : Trees → Type 0
  StopsAt given = (trees : Trees) → c.may_leave trees → trees ≡ given

  stop_by : (r : Result Audited Fault) → OnOk r (IsTrue c.is_open → StopsAt c.committed.trees)
      → IfOk (outcome_of version r)
      (λ made. IsOlderContent a (content.Older made.0) × Migrated made.0 a c)
      → OnOk (outcome_of version r) (StopsAt c.now.trees)
  stop_by (Ok (audited.Sound kept)) stop it = λ trees left. stop it.1.is_open trees left
      ∙ ap (λ (d : Database). d.trees) it.1.settled
  stop_by (Ok (audited.Unsound f)) stop it = tt
  stop_by (Err f) stop it = tt

  -- the outcome, after a refusal or a fault, and if the database was migrated
  module _ (r : Result Audited Fault) (left : Leaves version b c (told_of r))
      (o : Result (OlderVersion × Beside) MigrateFault) (is : o ≡ outcome_of version r) where
    pub left_first : IfErr o (IsLeft a c)
    left_first = subst (λ o. IfErr o (IsLeft a c)) (sym is) (left_by r left)

    pub survives_first : OnOk o (Survives a c (LeavesSome a))
    survives_first = subst (λ o. OnOk o (Survives a c (LeavesSome a))) (sym is) (survives_by r left)

    pub kept_first : IfOk r (IsKeptIfSound c.now) → IfOk o (λ made. IsKeptBeside c.now made.1)
    kept_first it = subst (λ o. IfOk o (λ made. IsKeptBeside c.now made.1)) (sym is) (kept_by r it)

    pub history_first : IsTold → IfOk o (λ made. (other : OlderVersion)
        → InOlderHistory other (λ w h. made.0 ≡ other) a c)
    history_first told = subst (λ o. IfOk o (λ made. (other : OlderVersion)
        → InOlderHistory other (λ w h. made.0 ≡ other) a c)) (sym is) (history_by r left told)

    pub faults_first : IsTold
        → IfOk r (λ found. InOlderHistory version (λ w h. report_of found ≡ Sound) b c)
        → IfErr o (λ fault. (other : OlderVersion)
        → InOlderHistory other (λ w h. IsFault fault) a c)
    faults_first told sound = subst (λ o. IfErr o (λ fault. (other : OlderVersion)
        → InOlderHistory other (λ w h. IsFault fault) a c)) (sym is)
        (faults_by r left told sound)

    module _ (found : HasCleanDisk b → IsOlderContent a (content.Older version))
        (ends : HasCleanDisk c → (IsTrue b.is_open → HasOlder version b.now.schema)
        → IfOk r (λ found. Ends version b c (report_of found))) (clean : HasCleanDisk c) where
      before_it : HasCleanDisk b
      before_it = clean_first version b c r left clean

      so_ended : IfOk r (λ found. Ends version b c (report_of found))
      so_ended = ends clean (λ is. subst (λ (d : Database). HasOlder version d.schema)
          (sym (same_now before_it is)) (found before_it).1)

      pub reason_first : IfErr o (IsReason a)
      reason_first = subst (λ o. IfErr o (IsReason a)) (sym is)
          (reason_by r (found before_it) before_it so_ended)

      migrated_so : IfOk (outcome_of version r)
          (λ made. IsOlderContent a (content.Older made.0) × Migrated made.0 a c)
      migrated_so = migrated_by r (found before_it) before_it so_ended

      pub migrated_first : IfOk o
          (λ made. IsOlderContent a (content.Older made.0) × Migrated made.0 a c)
      migrated_first = subst (λ o. IfOk o
          (λ made. IsOlderContent a (content.Older made.0) × Migrated made.0 a c)) (sym is)
          migrated_so

      pub stop_first : OnOk r (IsTrue c.is_open → StopsAt c.committed.trees)
          → OnOk o (StopsAt c.now.trees)
      stop_first stop = subst (λ o. OnOk o (StopsAt c.now.trees)) (sym is)
          (stop_by r stop migrated_so)
