-- One more table is declared, and the rows of the others stay.
use Rattle.std.proofs.Common.{◌≡◌, ◌∙◌, ◌<◌, ℕ, Bool, true, false, List, [], ◌∷◌, ◌++◌, IsTrue, Ok, Err}
use Rattle.std.proofs.Common.{Result, inl, refl, sym, ap, subst}
use Rattle.std.specs.Prelude.{◌==◌, None, MatchBool}
use Rattle.std.specs.List.{AllByRecursion, list_all}
use Rattle.std.proofs.lemmas.List.Sorted.{IsPermutation-refl}
use Rattle.std.specs.Result.{IsErr}
use Rattle.desk_base.proofs.Numbers.{same_number}
use Rattle.sqlite_value.specs.Keys.{first_key}
use Rattle.sqlite_value.specs.Order.{Row}
use Rattle.sqlite_tied.specs.Compute.{everything}
use Rattle.sqlite_trees.proofs.ListLemmas.{all-append}
use Rattle.sqlite_schema.specs.declared.command.Command.TheVariants.{CreateTable}
use Rattle.sqlite_schema.specs.declared.schema.Reference.{Reference}
use Rattle.sqlite_schema.specs.declared.schema.Schema.{Schema}
use Rattle.sqlite_schema.specs.declared.schema.Table.{Table}
use Rattle.sqlite_catalog.specs.Calls.{CreatesTable}
use Rattle.sqlite_catalog.specs.Change.{automatics, created, is_used, next_tree, KeepsRows}
use Rattle.sqlite_catalog.specs.Listing.{IsTableRow}
use Rattle.sqlite_catalog.proofs.LayoutLemmas.{zipped_left}
use Rattle.sqlite_resolve.specs.Compile.{first, table_defined_by}
use Rattle.sqlite_resolve.specs.Lowering.{Checked}
use Rattle.sqlite_rules.specs.Lists.{Has}
use Rattle.sqlite_rules.proofs.ListLemmas.{all_from, all_has, has_front, has_got, has_left, has_right}
use Rattle.sqlite.specs.Does.{MakesSequence, Tally, lacks_sequence, sequence_text}
use Rattle.sqlite.specs.Effect.{Database, IsDatabase}
use Rattle.sqlite.specs.Rows.{Gives}
use Rattle.sqlite.specs.State.{Executes, ExecutesIn, HasCleanDisk, State, Writes}
use Rattle.sqlite.proofs.Callers.{IsPlain, command_of, runs_as, statement_of}
use Rattle.sqlite.proofs.InsideLemmas.{keeps_then}
use Rattle.desk_model.specs.declared.command.Fault.{Fault}
use Rattle.desk_sql_layout.specs.Desk.{HasTable, found_as, is_harmless}
use Rattle.desk_sql_layout.specs.Held.{labelled}
use Rattle.desk_sql_layout.specs.Layout as d
use Rattle.desk_sql_layout.specs.Layout.{desk_schema}
use Rattle.desk_sql_layout.specs.Stored.{AreStored}
use Rattle.desk_sql_layout.proofs.Clean.{clean_before}
use Rattle.desk_sql_layout.proofs.Steps.{same_value, went}
use Rattle.desk_sql_write.specs.Written.{Ran}
use Rattle.desk_sql_write.proofs.Inside.{survives_both}
use Rattle.desk_sql_adopt.specs.Older.{HasTables, older_tables}
use Rattle.desk_sql_adopt.specs.declared.older.OlderVersion.TheVariants.{One, Two}
use Rattle.desk_sql_migrate.specs.Steps.{Gained, Gains, HaveRows, IfDone, IsStep, with_none}
use Rattle.desk_sql_migrate.specs.Steps.{with_no_readings, with_no_waivers}
use Rattle.desk_sql_migrate.proofs.Copying.{has_readings}
use Rattle.desk_sql_migrate.proofs.Declaring.{Creates, creation}
use Rattle.desk_sql_migrate.proofs.Growing.{comes, newest, stays, tree_of}

-- ---- a database with more tables

abbrev HaveNoKeys : List Table → Type 0
HaveNoKeys = AllByRecursion (λ t. t.references ≡ [])

-- the tables of a desk stay in their trees, with their rows
record Grows (a b : Database) : Type 0 where
  tables : (t : Table) (it : HasTable a.schema t)
      → (has : HasTable b.schema t) × (has.tree ≡ it.tree) × (b.trees it.tree ≡ a.trees it.tree)
  alone : HaveNoKeys a.schema.tables → HaveNoKeys b.schema.tables
  listed : (u : Table) → Has a.schema.tables u → Has b.schema.tables u

grows_same : (a b : Database) → b ≡ a → Grows a b
grows_same a b is = subst (Grows a) (sym is) (record {
  tables = λ t it. (it, refl, refl);
  alone = λ none. none;
  listed = λ u there. there;
})

grows_then : (a b c : Database) → Grows a b → Grows b c → Grows a c
grows_then a b c one two = record {
  tables = λ t it.
      let first = one.tables t it in
      let next = two.tables t first.0 in (
        next.0,
        next.1 ∙ first.1,
        subst (λ n. c.trees n ≡ b.trees n) first.1 next.2 ∙ first.2,
      );
  alone = λ none. two.alone (one.alone none);
  listed = λ u there. two.listed u (one.listed u there);
}

module _ (a b : Database) (table : Table) (is : b.schema ≡ created a.schema table)
    (none : table.references ≡ []) (kept : KeepsRows a.schema.tables a.trees b.trees) where
  grows_more : Grows a b
  grows_more = record {
    tables = λ t it.
        let there = has_got a.schema.tables it.place (found_as t it.tree it.not_null) it.listed in
        let more : (has : HasTable b.schema t) × (has.tree ≡ it.tree) =
        subst (λ (s : Schema). (has : HasTable s t) × (has.tree ≡ it.tree)) (sym is)
        (stays a.schema table t it) in (
          more.0,
          more.1,
          all_has (λ (u : Table). b.trees u.tree ≡ a.trees u.tree) a.schema.tables
              (found_as t it.tree it.not_null) kept there,
        );
    alone = λ own. subst (λ (s : Schema). HaveNoKeys s.tables) (sym is)
        (all-append (λ (t : Table). t.references ≡ []) a.schema.tables
        (newest a.schema table ∷ []) own (none, tt));
    listed = λ u there. subst (λ (s : Schema). Has s.tables u) (sym is)
        (has_left a.schema.tables (newest a.schema table ∷ []) u there);
  }

-- ---- what the text did

abbrev references_in : Checked Table → List Reference
references_in (Ok table) = table.references
references_in (Err e) = []

no_sequence_keys : references_in (table_defined_by sequence_text) ≡ []
unfolding everything
no_sequence_keys = refl

-- the table that counts for others may be made too
sequence_grows : (a b : Database) → MakesSequence a (Ok b) → Grows a b
sequence_grows a b = by (lacks_sequence a.schema)
  where
    by : (lacks : Bool) → MatchBool lacks
        (CreatesTable a.schema sequence_text a.trees b.schema b.trees) (Gives a (Ok b)) → Grows a b
    by true it = grows_more a b it.table it.is
        (sym (ap references_in it.defined) ∙ no_sequence_keys) it.others
    by false same = grows_same a b (same_value same)

record Declared (text : List ℕ) (old new : Database) : Type 0 where
  mid : Database
  creates : CreatesTable old.schema text old.trees mid.schema mid.trees
  rest : MakesSequence mid (Ok new)
  sound : IsDatabase new

declared_by : (text : List ℕ) → Creates text (first text) → (old new : State) (count : ℕ)
    → Executes text [] old new (Ok count) → Declared text old.now new.now
unfolding ExecutesIn
declared_by text creates old new count ran =
    let it = creation text creates old.now.schema ran.0 ran.1.is in
    let known = ran.1.is in
    let first_run = runs_as text [] old new old.now.schema refl CreateTable
    (ap command_of known ∙ it.command_is)
    (subst IsPlain (sym known) (it.returning, it.formats)) count ran in
    let w = subst (λ t. Writes old new None CreateTable t [] count)
    (ap (statement_of text) known ∙ it.whole) first_run in
    let all = went w.changed in
    let made = went all.1 in
    let now : new.now ≡ all.0 = ap (λ (p : Tally × Database). p.1) (same_value all.2) in
    record {
      mid = made.0;
      creates = made.1;
      rest = subst (λ db. MakesSequence made.0 (Ok db)) (sym now) made.2;
      sound = w.sound;
    }

-- ---- one more table of a desk

-- a table as its text declares it, before it has a tree
abbrev bare : Table → Table
bare table = record table { tree = 0 }

none_is : (last : Table) → AreStored last [] []
none_is last = record { rising = tt; keyed = tt; same = IsPermutation-refl [] }

module _ (text : List ℕ) (last : Table) (before : List Table) (creates : Creates text (first text))
    (defines : table_defined_by text ≡ Ok (bare last))
    (as_found : (n : ℕ) → record (bare last) { tree = n } ≡ found_as last n true)
    (none : last.references ≡ [])
    (harmless : (tree n : ℕ) → list_all (is_harmless last)
    (automatics (record (bare last) { tree = tree }) 0 n last.uniques) ≡ true)
    (there : Has desk_schema.tables last)
    (ours : (t : Table) → Has before t → Has desk_schema.tables t)
    (fresh : AllByRecursion (λ t. (t.tree == last.tree) ≡ false) before)
    (old new : Database) (did : Declared text old new) where
  made_as : did.creates.table ≡ bare last
  made_as = same_value (sym did.creates.defined ∙ defines)

  is_created : did.mid.schema ≡ created old.schema (bare last)
  is_created = did.creates.is ∙ ap (created old.schema) made_as

  first_grows : Grows old did.mid
  first_grows = grows_more old did.mid (bare last) is_created none did.creates.others

  next_grows : Grows did.mid new
  next_grows = sequence_grows did.mid new did.rest

  grows : Grows old new
  grows = grows_then old did.mid new first_grows next_grows

  abbrev n : ℕ
  n = next_tree old.schema

  low : n < 65536
  low =
      let here = next_grows.listed (newest old.schema (bare last)) (subst
      (λ (s : Schema). Has s.tables (newest old.schema (bare last))) (sym is_created)
      (has_right old.schema.tables (newest old.schema (bare last) ∷ [])
      (newest old.schema (bare last)) (inl refl))) in
      (zipped_left IsTableRow _ new.schema.tables (newest old.schema (bare last))
      did.sound.lists.listed.tables here).2.described.low

  -- the new one
  module _ (sound : IsDatabase old) where
    last_made : (has : HasTable did.mid.schema last) × (has.tree ≡ n)
    last_made = subst (λ (s : Schema). (has : HasTable s last) × (has.tree ≡ n)) (sym is_created)
        (comes old.schema (bare last) last (as_found n)
        (ap (λ (t : Table). is_used old.schema t.name)
        (sym made_as) ∙ did.creates.free) old refl sound low (harmless n))

    last_has : (has : HasTable new.schema last) × (has.tree ≡ n) × (new.trees n ≡ [])
    last_has =
        let more = next_grows.tables last last_made.0 in (
          more.0,
          more.1 ∙ last_made.1,
          subst (λ m. new.trees m ≡ did.mid.trees m) last_made.1 more.2 ∙ did.creates.empty,
        )

    has_more : HasTables before old.schema → HasTables (before ++ last ∷ []) new.schema
    has_more has = record {
      each = all-append (HasTable new.schema) before (last ∷ [])
          (all_from (HasTable new.schema) before (λ t here. (grows.tables t
          (all_has (HasTable old.schema) before t has.each here)).0)) (last_has.0, tt);
      alone = grows.alone has.alone;
    }

    -- the rows of the others, which stay
    kept : HasTables before old.schema → (rows : ℕ → List Row) → HaveRows before rows old
        → (t : Table) → Has before t
        → AreStored t (with_none last.tree rows t.tree) (labelled new t.tree)
    kept has rows stored t here =
        let it = all_has (HasTable old.schema) before t has.each here in
        let more = grows.tables t it in
        let same : labelled new t.tree ≡ labelled old t.tree =
        ap new.trees (tree_of new.schema t (ours t here) more.0 ∙ more.1) ∙ more.2
        ∙ sym (ap old.trees (tree_of old.schema t (ours t here) it)) in
        rw (all_has (λ t. (t.tree == last.tree) ≡ false) before t fresh here, same)
        (all_has (λ t. AreStored t (rows t.tree) (labelled old t.tree)) before t stored here)

    empty : labelled new last.tree ≡ []
    empty = ap new.trees (tree_of new.schema last there last_has.0 ∙ last_has.1) ∙ last_has.2

    rows_more : HasTables before old.schema → (rows : ℕ → List Row) → HaveRows before rows old
        → HaveRows (before ++ last ∷ []) (with_none last.tree rows) new
    rows_more has rows stored =
        let shows = λ (t : Table). AreStored t (with_none last.tree rows t.tree)
        (labelled new t.tree) in
        all-append shows before (last ∷ []) (all_from shows before (kept has rows stored))
        (rw (same_number last.tree, empty) (none_is last), tt)

module _ (text : List ℕ) (last : Table) (before : List Table) (creates : Creates text (first text))
    (defines : table_defined_by text ≡ Ok (bare last))
    (as_found : (n : ℕ) → record (bare last) { tree = n } ≡ found_as last n true)
    (none : last.references ≡ [])
    (harmless : (tree n : ℕ) → list_all (is_harmless last)
    (automatics (record (bare last) { tree = tree }) 0 n last.uniques) ≡ true)
    (there : Has desk_schema.tables last)
    (ours : (t : Table) → Has before t → Has desk_schema.tables t)
    (fresh : AllByRecursion (λ t. (t.tree == last.tree) ≡ false) before) where
  gained : (old new : State) (r : Result (Unit {0}) Fault) → Ran text [] old new r
      → IfDone (Gained before (before ++ last ∷ []) (with_none last.tree)) old new r
  gained old new (Err fault) ran = ran
  gained old new (Ok done) ran = λ clean inside.
      let it = ran clean inside in
      let did = declared_by text creates old new it.0 it.1.0 in
      record {
        was_open = it.1.1.was_open;
        inside = it.1.1.mode;
        kept = record { was_open = λ is. it.1.1.was_open; committed = λ is. it.1.1.committed_is };
        has = λ has. record {
          declared = has_more text last before creates defines as_found none harmless there ours
              fresh old.now new.now did has.sound has.declared;
          sound = did.sound;
        };
        rows = λ has. rows_more text last before creates defines as_found none harmless there ours
            fresh old.now new.now did has.sound has.declared;
      }

-- ---- the two tables

readings_gained_by : Creates d.reading_text (first d.reading_text)
unfolding everything
readings_gained_by = (refl, refl)

readings_defined : table_defined_by d.reading_text ≡ Ok (bare d.reading_table)
unfolding everything
readings_defined = refl

pub readings_gained : (old new : State) (r : Result (Unit {0}) Fault)
    → Ran d.reading_text [] old new r
    → IfDone (Gained (older_tables One) (older_tables Two) with_no_readings) old new r
readings_gained = gained d.reading_text d.reading_table (older_tables One) readings_gained_by
    readings_defined (λ n. refl) refl (λ tree n. refl) has_readings
    (λ t. has_front desk_schema.tables (older_tables One)
    (d.reading_table ∷ d.waiver_table ∷ []) t refl)
    (refl, (refl, (refl, (refl, (refl, (refl, (refl, (refl, (refl, (refl, (refl, (refl, (refl, (refl, tt))))))))))))))

waivers_gained_by : Creates d.waiver_text (first d.waiver_text)
unfolding everything
waivers_gained_by = (refl, refl)

waivers_defined : table_defined_by d.waiver_text ≡ Ok (bare d.waiver_table)
unfolding everything
waivers_defined = refl

waivers_harmless : (tree n : ℕ) → list_all (is_harmless d.waiver_table)
    (automatics (record (bare d.waiver_table) { tree = tree }) 0 n d.waiver_table.uniques) ≡ true
unfolding first_key
waivers_harmless tree n = refl

has_waivers : Has desk_schema.tables d.waiver_table
has_waivers = has_got desk_schema.tables 15 d.waiver_table refl

pub waivers_gained : (old new : State) (r : Result (Unit {0}) Fault)
    → Ran d.waiver_text [] old new r
    → IfDone (Gained (older_tables Two) desk_schema.tables with_no_waivers) old new r
waivers_gained = gained d.waiver_text d.waiver_table (older_tables Two) waivers_gained_by
    waivers_defined (λ n. refl) refl waivers_harmless has_waivers
    (λ t. has_front desk_schema.tables (older_tables Two) (d.waiver_table ∷ []) t refl)
    (refl, (refl, (refl, (refl, (refl, (refl, (refl, (refl, (refl, (refl, (refl, (refl, (refl, (refl, (refl, tt)))))))))))))))

-- one step, and then another
pub then_gains : {a b c : List Table} (f g : (ℕ → List Row) → ℕ → List Row) {x y z : State}
    (r : Result (Unit {0}) Fault) → Gains a b f x y (Ok tt) → Gains b c g y z r
    → Gains a c (λ rows. g (f rows)) x z r
then_gains {a} {b} {c} f g {x} {y} {z} r first next = record {
  done = both r next.done;
  survives = survives_both x y z first.survives next.survives;
}
  where
    one : HasCleanDisk z → IsTrue x.in_transaction → Gained a b f x y
    one clean inside = first.done (clean_before y z _ next.survives clean) inside

    both : (r : Result (Unit {0}) Fault) → IfDone (Gained b c g) y z r
        → IfDone (Gained a c (λ rows. g (f rows))) x z r
    both (Ok done) next = λ clean inside.
        let it = one clean inside in
        let two = next clean it.inside in
        record {
          was_open = it.was_open;
          inside = two.inside;
          kept = keeps_then x y z it.kept two.kept;
          has = λ has. two.has (it.has has);
          rows = λ has rows shown. two.rows (it.has has) (f rows) (it.rows has rows shown);
        }
    both (Err fault) next = λ clean inside.
        let it = one clean inside in
        keeps_then x y z it.kept (next clean it.inside)

-- the first step failed, and `?` returns its fault
pub step_fails : {D E : State → State → Type 0} {x y : State} {fault : Fault}
    (r : Result (Unit {0}) Fault) → IsErr r → IsStep D x y (Err fault) → IsStep E x y r
step_fails (Ok done) is it = absurd (cc)
step_fails (Err e) is it = record { done = it.done; survives = it.survives }
