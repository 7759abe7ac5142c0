-- The tables of an empty desk.
use Rattle.std.proofs.Common.{◌≡◌, ◌∙◌, ◌⊎◌, inl, inr, ℕ, pos, ◌≤◌, Bool, true, false, cond, filter}
use Rattle.std.proofs.Common.{length, List, [], ◌∷◌, codes, None, IfErr, IsTrue, Ok, Err, Result}
use Rattle.std.proofs.Common.{refl, sym, ap, subst, arith}
use Rattle.std.specs.Prelude.{◌==◌}
use Rattle.std.specs.List.{AllByRecursion}
use Rattle.sqlite_value.specs.Keys.{plain}
use Rattle.sqlite_schema.specs.Rules.{agree}
use Rattle.sqlite_rules.proofs.ListLemmas.{all_from, all_has}
use Rattle.std.proofs.lemmas.List.Sorted.{IsPermutation-refl}
use Rattle.sqlite_value.specs.declared.value.Value.TheVariants.{Null, Int}
use Rattle.sqlite_value.specs.Order.{Row}
use Rattle.sqlite_sql.specs.Term.{Term, lit}
use Rattle.sqlite_schema.specs.declared.command.Command.TheVariants.{Insert}
use Rattle.sqlite_schema.specs.declared.command.Source.TheVariants.{Values}
use Rattle.sqlite_tied.specs.Compute.{everything}
use Rattle.sqlite_trees.specs.Tree.{Trees, rowid}
use Rattle.std.specs.Result.{IsErrAnd}
use Rattle.sqlite_trees.specs.declared.store.Store.{Ghosts}
use Rattle.sqlite.specs.declared.error.Error.{Error}
use Rattle.sqlite.specs.Held.{Held, state}
use Rattle.sqlite.specs.Steps.{FailsToCommit}
use Rattle.desk_sql_layout.specs.Faults.{fault_by}
use Rattle.sqlite.specs.Effect.{Database}
use Rattle.sqlite.specs.State.{State, HasCleanDisk, Survives}
use Rattle.sqlite.proofs.Callers.{survives_begin}
use Rattle.sqlite.proofs.InsideLemmas.{keeps_then}
use Rattle.sqlite.proofs.StateLemmas.{survives_then}
use Rattle.desk_model.specs.declared.command.Fault.{Fault}
use Rattle.desk_sql_layout.specs.Layout as d
use Rattle.desk_sql_layout.specs.Cells.{number, meta_cells}
use Rattle.desk_sql_layout.specs.Held.{HasRows, AreOrderly, Stands, rows_of, labelled}
use Rattle.desk_sql_layout.specs.Desk.{tree_in}
use Rattle.desk_sql_layout.proofs.Declared.{own_tree, rows_declared}
use Rattle.desk_sql_layout.proofs.Writing.{IsWrite}
use Rattle.desk_sql_layout.specs.Stored.{AreStored}
use Rattle.desk_sql_layout.proofs.Casts.{cast_null, cast_int}
use Rattle.desk_sql_layout.proofs.Clean.{clean_before}
use Rattle.sqlite_schema.specs.declared.schema.Table.{Table}
use Rattle.desk_sql_write.specs.Declaring.{IsBare, DeclareFails, Left, Went}
use Rattle.desk_sql_write.specs.Taking.{IsCaused, StandsOnce, CanStand, LeavesRoom, HasRoom}
use Rattle.desk_sql_write.specs.Taking.{RanInto, in_cells}
use Rattle.desk_sql_write.specs.Turning.{with_rows}
use Rattle.desk_sql_write.proofs.Causes.{first_caused, later_caused, ends_caused}
use Rattle.desk_sql_write.proofs.Inserting.{inserted_adds}
use Rattle.desk_sql_write.proofs.Inserts.{AreAdded}
use Rattle.desk_sql_write.proofs.Storable.{int_light, null_light}
use Rattle.desk_sql_write.specs.Written.{Ran}
use Rattle.desk_sql_write.specs.Creating.{no_tables, HasFounded, FoundFails, CreateFails, Founds}
use Rattle.desk_sql_write.specs.Creating.{LeavesTables}
use Rattle.desk_sql_write.proofs.Declared.{all_declared}
use Rattle.desk_sql_write.proofs.Declarations.{declarations, all_are_declared, desk_schema_is}

-- ---- the version

abbrev pub version_text : List ℕ
version_text = codes "INSERT INTO meta VALUES (3)"

abbrev version_terms : List Term
version_terms = lit (Int (pos 3)) ∷ lit Null ∷ []

version_reads : IsWrite version_text 0 0 (λ place at. Insert place (Values version_terms 2))
unfolding everything
version_reads = record {
  from = λ at not_null. (refl, refl, refl, refl, tt);
  is = λ place at not_null. record { is = refl; plain = (refl, refl); suits = (refl, refl) };
}

version_adds : AreAdded version_text [] 0 (meta_cells ∷ []) 1
version_adds old new =
    let this = d.meta_table in
    inserted_adds this.name 0 this.columns this.key this.primary this.uniques this.orders 0 refl
    version_text [] version_terms 2 version_reads refl
    ((number 3 ∷ Null ∷ []) ∷ []) (meta_cells ∷ []) refl refl (refl, λ r. refl)
    ((λ stored. rw (cast_null, cast_int (pos 3)) refl), tt) (λ id. refl, tt)
    (λ trees small. (
      record {
        number = (3, _, refl, omega arith);
        right = λ id. record {
          typed = refl;
          present = refl;
          light = (int_light (pos 3), (null_light, tt));
          some = omega arith;
          few = omega arith;
        };
      },
      tt,
    )) old new

-- no rows anywhere
abbrev nothing : ℕ → List Row
nothing tree = []

no_rows : (table : Table) (stored : List Row) → stored ≡ [] → AreStored table [] stored
no_rows table [] is = record { rising = tt; keyed = tt; same = IsPermutation-refl [] }
no_rows table (r ∷ rs) is = absurd (cc)

bare_rows : (db : Database) → IsBare d.desk_schema db → HasRows nothing db
bare_rows db bare =
    let e = bare.empty in
    rows_declared nothing db bare.declared (
      no_rows d.meta_table _ e.0,
      (
        no_rows d.catalogue_table _ e.1.0,
        (
          no_rows d.rule_table _ e.1.1.0,
          (
            no_rows d.document_table _ e.1.1.1.0,
            (
              no_rows d.package_table _ e.1.1.1.1.0,
              (
                no_rows d.extracted_table _ e.1.1.1.1.1.0,
                (
                  no_rows d.conclusion_table _ e.1.1.1.1.1.1.0,
                  (
                    no_rows d.adoption_table _ e.1.1.1.1.1.1.1.0,
                    (
                      no_rows d.releases_table _ e.1.1.1.1.1.1.1.1.0,
                      (
                        no_rows d.attached_table _ e.1.1.1.1.1.1.1.1.1.0,
                        (
                          no_rows d.choice_table _ e.1.1.1.1.1.1.1.1.1.1.0,
                          (
                            no_rows d.frozen_table _ e.1.1.1.1.1.1.1.1.1.1.1.0,
                            (
                              no_rows d.duty_table _ e.1.1.1.1.1.1.1.1.1.1.1.1.0,
                              (
                                no_rows d.change_table _ e.1.1.1.1.1.1.1.1.1.1.1.1.1.0,
                                (
                                  no_rows d.reading_table _ e.1.1.1.1.1.1.1.1.1.1.1.1.1.1.0,
                                  (no_rows d.waiver_table _ e.1.1.1.1.1.1.1.1.1.1.1.1.1.1.1.0, tt),
                                ),
                              ),
                            ),
                          ),
                        ),
                      ),
                    ),
                  ),
                ),
              ),
            ),
          ),
        ),
      ),
    ) bare.sound

version_added : (db : Database) → HasRows (with_rows 0 (meta_cells ∷ []) nothing) db
    → HasRows (rows_of no_tables) db
version_added db has = record { declared = has.declared; stored = has.stored; sound = has.sound }

orderly : AreOrderly no_tables
orderly = record {
  sorted = record {
    catalogue = tt;
    document = tt;
    conclusion = tt;
    adoption = tt;
    releases = tt;
    attached = tt;
    choice = tt;
    frozen = tt;
    duty = tt;
    changes = tt;
  };
  packages = tt;
  revisions = tt;
  documents = tt;
  duties = tt;
  of_documents = refl;
  of_duties = refl;
  codes = refl;
}

none_stand : CanStand nothing
none_stand = record {
  small = (
    tt,
    (
      tt,
      (
        tt,
        (
          tt,
          (
            tt,
            (tt, (tt, (tt, (tt, (tt, (tt, (tt, (tt, (tt, (tt, (tt, tt))))))))))),
          ),
        ),
      ),
    ),
  );
  keys = all_from (λ t. AllByRecursion (StandsOnce []) (t.primary ∷ t.uniques)) d.desk_schema.tables
      (λ t there. once (t.primary ∷ t.uniques));
}
  where
    once : (keys : List (List ℕ)) → AllByRecursion (StandsOnce []) keys
    once [] = tt
    once (k ∷ keys) = ((λ key. omega arith), once keys)

version_stands : CanStand (with_rows 0 (meta_cells ∷ []) nothing)
version_stands = record {
  small = (
    ((omega arith, tt), tt),
    (tt, (tt, (tt, (tt, (tt, (tt, (tt, (tt, (tt, (tt, (tt, (tt, (tt, (tt, (tt, tt))))))))))))))),
  );
  keys = all_from (λ t. AllByRecursion (StandsOnce (with_rows 0 (meta_cells ∷ []) nothing t.tree))
      (t.primary ∷ t.uniques)) d.desk_schema.tables
      (λ t there. each (t.tree == 0) (t.primary ∷ t.uniques));
}
  where
    once : (b : Bool) (test : Row → Bool) → length (filter test (cond b (meta_cells ∷ []) [])) ≤ 1
    once false test = omega arith
    once true test = go (test meta_cells)
      where
        go : (c : Bool) → length (cond c (meta_cells ∷ []) []) ≤ 1
        go true = omega arith
        go false = omega arith

    each : (b : Bool) (keys : List (List ℕ))
        → AllByRecursion (StandsOnce (cond b (meta_cells ∷ []) [])) keys
    each b [] = tt
    each b (k ∷ keys) = (
      (λ key. once b (λ row. agree plain (in_cells k) row (in_cells k) key)),
      each b keys,
    )

bare_room : (db : Database) → IsBare d.desk_schema db → HasRoom 1 (labelled db)
bare_room db bare = record {
  few = omega arith;
  room = all_from (λ t. t.key ≡ None
      → AllByRecursion (λ r. LeavesRoom 1 (rowid r)) (labelled db t.tree)) d.desk_schema.tables
      (λ t there none.
      let empty : labelled db t.tree ≡ [] = ap (λ s. db.trees (tree_in s t.tree)) bare.declared
      ∙ ap db.trees (own_tree t there)
      ∙ all_has (λ t. db.trees t.tree ≡ []) d.desk_schema.tables t bare.empty there in
      subst (AllByRecursion (λ r. LeavesRoom 1 (rowid r))) (sym empty) tt);
}

abbrev pub all_texts : List (List ℕ)
all_texts = d.meta_text ∷ d.catalogue_text ∷ d.rule_text ∷ d.document_text ∷ d.package_text
    ∷ d.extracted_text ∷ d.conclusion_text ∷ d.adoption_text ∷ d.releases_text ∷ d.attached_text
    ∷ d.choice_text ∷ d.frozen_text ∷ d.duty_text ∷ d.change_text ∷ d.reading_text ∷ d.waiver_text
    ∷ []

all_left : (db : Database) → IsBare d.no_schema db → Left all_texts d.desk_schema db
all_left db bare = record {
  tables = declarations;
  schema = d.no_schema;
  are_texts = refl;
  declared = all_are_declared;
  bare = bare;
  final_is = desk_schema_is;
}

-- the tables were declared, and the version was recorded
pub founded : (a b c : State) (texts : List (List ℕ)) (r : Result (Unit {0}) Fault)
    → texts ≡ all_texts → (HasCleanDisk b → IsTrue a.in_transaction → Went texts [] a b)
    → Survives b c (λ _. ⊥)
    → Ran version_text [] b c r → IfErr r (RanInto version_text [] b c) → HasFounded a c r
founded a b c texts (Ok done) are went survives ran into = λ clean inside.
    let first = went (clean_before b c _ survives clean) inside in
    let next = (version_adds b c (Ok done) ran into survives).wrote clean first.inside in
    record {
      inside = next.inside;
      was_open = first.kept.was_open (ran clean first.inside).1.1.was_open;
      is_open = (ran clean first.inside).1.1.is_open;
      kept = keeps_then a b c first.kept next.kept;
      holds = λ bare.
          let declared = all_declared d.desk_schema b.now
          (first.left d.desk_schema (subst (λ (ts : List (List ℕ)). Left ts d.desk_schema a.now)
          (sym are) (all_left a.now bare))) in
          record {
            rows = version_added c.now (next.change nothing (bare_rows b.now declared));
            orderly = orderly;
          };
    }
founded a b c texts (Err fault) are went survives ran into = λ clean inside.
    let first = went (clean_before b c _ survives clean) inside in
    keeps_then a b c first.kept (ran clean first.inside)

-- and it fails only for a cause, as declaring them does
pub declared_fails : (a c : State) (texts : List (List ℕ)) (fault : Fault) → texts ≡ all_texts
    → DeclareFails texts a c fault → FoundFails a c fault
declared_fails a c texts fault are fails = record {
  cause = λ clean inside opened unlimited bare. fails.cause clean inside opened unlimited
      d.desk_schema (subst (λ (ts : List (List ℕ)). Left ts d.desk_schema a.now) (sym are)
      (all_left a.now bare));
}

pub founding_fails : (a b c : State) (texts : List (List ℕ)) (r : Result (Unit {0}) Fault)
    → texts ≡ all_texts → (HasCleanDisk b → IsTrue a.in_transaction → Went texts [] a b)
    → Survives a b (λ _. ⊥) → Survives b c (λ _. ⊥)
    → Ran version_text [] b c r → IfErr r (RanInto version_text [] b c) → IfErr r (FoundFails a c)
founding_fails a b c texts (Ok done) are went s survives ran into = tt
founding_fails a b c texts (Err fault) are went s survives ran into = record {
  cause = λ clean inside opened unlimited bare.
      let first = went (clean_before b c _ survives clean) inside in
      let declared = all_declared d.desk_schema b.now
      (first.left d.desk_schema (subst (λ (ts : List (List ℕ)). Left ts d.desk_schema a.now)
      (sym are) (all_left a.now bare))) in
      first_caused a b c fault s
      ((version_adds b c (Err fault) ran into survives).cause.cause clean first.inside
      (first.is_open opened) (s.limit ∙ unlimited) nothing (bare_rows b.now declared) none_stand
      version_stands (bare_room b.now declared));
}

pub err_founds : (a c : State) (r : Result (Unit {0}) Fault) (fault : Fault)
    → IsErrAnd r (λ e. e ≡ fault) → FoundFails a c fault → IfErr r (FoundFails a c)
err_founds a c (Ok done) fault is fails = absurd is
err_founds a c (Err e) fault is fails = rw is fails

-- the commit leaves the tables of an empty desk, or what was there before
pub commit_leaves : {S : Type 0} (g : Ghosts S) (old : Held S) (last new : State)
    → Survives (state g (record old { in_transaction = true })) last (λ _. ⊥)
    → Survives last new (λ trees. trees ≡ last.now.trees)
    → (HasCleanDisk last → Founds (state g (record old { in_transaction = true })) last)
    → Survives (state g old) new (LeavesTables (state g old))
commit_leaves g old last new s u founds = survives_then (state g old) last new (λ _. ⊥)
    (λ trees. trees ≡ last.now.trees) (LeavesTables (state g old)) (λ _ db none. absurd none)
    (λ clean db is. let it = founds (clean_before last new _ u clean) in
    (it.was_open, last.now, it.holds, is)) (survives_begin g old last (λ _. ⊥) s) u

-- the transaction is dropped after a fault, and its commit fails only for a cause
module _ {S : Type 0} (g : Ghosts S) (old : Held S) (last new : State) (P : Trees → Type 0) where
  abbrev begun : State
  begun = state g (record old { in_transaction = true })

  pub dropped_fails : (r : Result (Unit {0}) Fault) (fault : Fault) → IsErrAnd r (λ e. e ≡ fault)
      → Survives last new P → FoundFails begun last fault → IfErr r (CreateFails (state g old) new)
  dropped_fails (Ok done) fault is s fails = absurd is
  dropped_fails (Err e) fault is s fails = record {
    cause = λ clean opened unlimited bare. later_caused begun last new P e s
        (subst (IsCaused begun last) (sym is)
        (fails.cause (clean_before last new P s clean) refl opened unlimited bare));
  }

  pub commit_fails : (e : Error) → Survives begun last (λ _. ⊥) → Survives last new P
      → (HasCleanDisk last → Founds begun last) → (HasCleanDisk new → FailsToCommit last new e)
      → CreateFails (state g old) new (fault_by e)
  commit_fails e s u founds fails = record {
    cause = λ clean opened unlimited bare.
        let it = founds (clean_before last new P u clean) in
        first_caused begun last new (fault_by e) s
        (ends_caused last new e it.is_open it.inside (fails clean));
  }

-- what a stop leaves, in terms of the tables alone
pub leaves_tables : (old new : State) → (IsTrue old.is_open → IsBare d.no_schema old.now)
    → Survives old new (LeavesTables old) → Survives old new (λ trees. Stands trees no_tables)
leaves_tables old new bare survives = record {
  clean = survives.clean;
  shield = survives.shield;
  counts = survives.counts;
  limit = survives.limit;
  closes = survives.closes;
  crash = λ clean x left. told x (survives.crash clean x left);
}
  where
    told : (x : Trees) → old.may_leave x ⊎ LeavesTables old x → old.may_leave x ⊎ Stands x no_tables
    told x (inl was) = inl was
    told x (inr (open_then, db, holds, same)) = inr (db, holds (bare open_then), same)
