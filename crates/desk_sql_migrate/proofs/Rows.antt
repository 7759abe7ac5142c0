-- The rows that a migration writes.
use Rattle.std.proofs.Common.{◌≡◌, ◌≢◌, ◌∙◌, ℕ, ℤ, pos, Bool, true, not, List, [], ◌∷◌, ◌++◌, map, filter}
use Rattle.std.proofs.Common.{codes, slice_get, Option, Some, None, Ok, Err, Result, inl, inr, refl}
use Rattle.std.proofs.Common.{sym, ap, subst, subst₂, IsPermutation}
use Rattle.std.specs.List.{AllByRecursion}
use Rattle.std.proofs.lemmas.List.Sorted.{IsPermutation-refl, IsPermutation-map}
use Rattle.std.proofs.lemmas.List.Sorted.{IsPermutation-trans, IsPermutation-append}
use Rattle.sqlite_value.specs.declared.value.Value.{Value}
use Rattle.sqlite_value.specs.declared.value.Value.TheVariants.{Int, Null}
use Rattle.sqlite_value.specs.declared.keys.Order.{Order}
use Rattle.sqlite_value.specs.Order.{Row, column}
use Rattle.sqlite_trees.specs.Tree.{Trees, rowid}
use Rattle.sqlite_trees.specs.View.{is_int}
use Rattle.sqlite_trees.proofs.ListLemmas.{filter_all, map-map, IsPermutation-same}
use Rattle.sqlite_sql.specs.Term.{Term, lit, col}
use Rattle.sqlite_sql.specs.Query.{Output, output, IsAnswer}
use Rattle.sqlite_sql.specs.Query.{Query as SqlQuery}
use Rattle.sqlite_sql.specs.Program.{overlay}
use Rattle.sqlite_schema.specs.declared.schema.Column.{Column}
use Rattle.sqlite_schema.specs.declared.schema.Schema.{Schema}
use Rattle.sqlite_schema.specs.declared.schema.Table.{Table}
use Rattle.sqlite_schema.specs.declared.schema.Keys.TheVariants.{Enforced}
use Rattle.sqlite_schema.specs.declared.program.Program.{Program}
use Rattle.sqlite_schema.specs.declared.command.Command.{Command}
use Rattle.sqlite_schema.specs.declared.command.Command.TheVariants.{Insert, Delete}
use Rattle.sqlite_schema.specs.declared.command.Source.TheVariants.{Values, Query}
use Rattle.sqlite_rules.specs.Lists.{Has}
use Rattle.sqlite_rules.specs.declared.error.Rowids.TheVariants.{Chosen}
use Rattle.sqlite_rules.specs.Edit.{edit_of, Applies}
use Rattle.sqlite_rules.proofs.ActionLemmas.{no_works}
use Rattle.sqlite_rules.proofs.ListLemmas.{all_has}
use Rattle.sqlite_rules.proofs.ProbeLemmas.{has_mapped}
use Rattle.sqlite_tied.specs.Compute.{everything}
use Rattle.sqlite.specs.Does.{AtPlace, Does, OnRows, Tally}
use Rattle.sqlite.specs.Effect.{Database, Answers, IsDatabase}
use Rattle.sqlite.specs.Listing.{understood}
use Rattle.sqlite.specs.Rows.{Written}
use Rattle.sqlite.specs.State.{State, Executes, mode_of}
use Rattle.sqlite.proofs.Callers.{statement_of, runs_as, one_step}
use Rattle.desk_model.specs.declared.command.Fault.{Fault}
use Rattle.desk_sql_layout.specs.Cells.{number}
use Rattle.desk_sql_layout.specs.Desk.{HasDesk, HasTable, columns_with}
use Rattle.desk_sql_layout.specs.Held.{HasRows}
use Rattle.desk_sql_layout.specs.Layout as d
use Rattle.desk_sql_layout.specs.Layout.{desk_schema, table_of}
use Rattle.desk_sql_layout.specs.Stored.{cells, AreStored}
use Rattle.desk_sql_layout.proofs.Casts.{cast_null, cast_int}
use Rattle.desk_sql_layout.proofs.Declared.{actual, entry, tree_is}
use Rattle.desk_sql_layout.proofs.Edits.{has_permuted}
use Rattle.desk_sql_layout.proofs.Queries.{query_on, env, selected}
use Rattle.desk_sql_layout.proofs.Statements.{all_after, deleted, inserted, mine}
use Rattle.desk_sql_layout.proofs.Steps.{Stepped, at, same_value, went}
use Rattle.desk_sql_layout.proofs.Writes.{Shows, after_insert}
use Rattle.desk_sql_layout.proofs.Writing.{IsWrite, plain_write, writes_here}
use Rattle.desk_sql_write.specs.Written.{Ran}
use Rattle.desk_sql_adopt.specs.Older.{HasTables, first_readings}
use Rattle.desk_sql_adopt.proofs.Olders.{each}
use Rattle.desk_sql_migrate.specs.Steps.{Gained, IfDone, with_readings}
use Rattle.desk_sql_migrate.specs.Steps.{with_version, without_version}
use Rattle.desk_sql_migrate.proofs.Copying.{has_documents, has_readings, readings_here}
use Rattle.desk_sql_migrate.proofs.Copying.{readings_plain, readings_query, readings_text, source}

-- ---- all tables of a desk

pub has_desk : (schema : Schema) → HasTables desk_schema.tables schema → HasDesk schema
unfolding HasDesk
has_desk schema has = record { tables = has.each; alone = has.alone }

has_tables : (schema : Schema) → HasDesk schema → HasTables desk_schema.tables schema
unfolding HasDesk
has_tables schema desk = record { each = desk.tables; alone = desk.alone }

-- a statement on the rows of one table leaves the schema
module _ (s : State) (params : Row) (new : Database) (tally : Tally) (command : Command) where
  schema_kept : (o : Option Table) → AtPlace (λ table. OnRows
      (record { limit = s.step_limit; keys = (mode_of s).keys; schema = s.now.schema; table = table; params = params })
      (mode_of s) None command s.now.trees) o (Ok (tally, new)) → new.schema ≡ s.now.schema
  schema_kept None did = absurd (cc)
  schema_kept (Some t) did = ap (λ (p : Tally × Database). p.1.schema)
      (same_value (went (went (went did).2).2).2)

-- what a statement has made of the tables of a desk
gained_by : (sql : List ℕ) (params : Row) (made : (ℕ → List Row) → ℕ → List Row)
    → ((old new : State) (count : ℕ) → Executes sql params old new (Ok count)
    → HasDesk old.now.schema → (new.now.schema ≡ old.now.schema) × IsDatabase new.now)
    → ((old new : State) (count : ℕ) (rows : ℕ → List Row) → Executes sql params old new (Ok count)
    → HasRows rows old.now → HasRows (made rows) new.now)
    → (old new : State) (r : Result (Unit {0}) Fault) → Ran sql params old new r
    → IfDone (Gained desk_schema.tables desk_schema.tables made) old new r
gained_by sql params made schema rows old new (Err fault) ran = ran
gained_by sql params made schema rows old new (Ok done) ran = λ clean inside.
    let it = ran clean inside in
    record {
      was_open = it.1.1.was_open;
      inside = it.1.1.mode;
      kept = record { was_open = λ is. it.1.1.was_open; committed = λ is. it.1.1.committed_is };
      has = λ has.
          let after = schema old new it.0 it.1.0 (has_desk old.now.schema has.declared) in record {
            declared = subst (HasTables desk_schema.tables) (sym after.0) has.declared;
            sound = after.1;
          };
      rows = λ has given stored. (rows old new it.0 given it.1.0
          (record {
            declared = has_desk old.now.schema has.declared;
            stored = stored;
            sound = has.sound;
          })).stored;
    }

-- ---- the version

abbrev note_text : List ℕ
note_text = codes "INSERT INTO meta VALUES (3)"

abbrev note_terms : List Term
note_terms = lit (number 3) ∷ lit Null ∷ []

note_is : IsWrite note_text 0 0 (λ place at. Insert place (Values note_terms 2))
unfolding everything
note_is = record {
  from = λ at not_null. (refl, refl, refl, refl, tt);
  is = λ place at not_null. record { is = refl; plain = (refl, refl); suits = (refl, refl) };
}

has_meta : Has desk_schema.tables d.meta_table
has_meta = inl refl

version_noted_in : (old new : State) (count : ℕ) (rows : ℕ → List Row)
    → Executes note_text [] old new (Ok count) → HasRows rows old.now
    → HasRows (with_version rows) new.now
version_noted_in old new count rows ran has =
    let this = d.meta_table in
    inserted this.name 0 this.columns this.key this.primary this.uniques this.orders 0 refl
    note_text [] rows (with_version rows)
    (λ n. absurd (n refl), (λ n. refl, (λ n. refl, (λ n. refl, (λ n. refl, (λ n. refl, (λ n. refl, (λ n. refl, (λ n. refl, (λ n. refl, (λ n. refl, (λ n. refl, (λ n. refl, (λ n. refl, (λ n. refl, (λ n. refl, tt))))))))))))))))
    old new count ran has note_terms 2 (number 3 ∷ Null ∷ []) (number 3 ∷ []) note_is refl
    (λ stored. rw (cast_null, cast_int (pos 3)) refl)
    (IsPermutation-refl ((number 3 ∷ []) ∷ rows 0))

version_noted_schema : (old new : State) (count : ℕ) → Executes note_text [] old new (Ok count)
    → HasDesk old.now.schema → (new.now.schema ≡ old.now.schema) × IsDatabase new.now
version_noted_schema old new count ran desk =
    let schema = old.now.schema in
    let place = (entry schema desk d.meta_table has_meta).place in
    let command = Insert place (Values note_terms 2) in
    let w = runs_as note_text [] old new schema refl command
    (writes_here note_is d.meta_table has_meta refl schema desk)
    (plain_write note_is d.meta_table has_meta refl schema desk) count ran in
    (schema_kept old [] new.now w.tally command (slice_get schema.tables place) w.changed, w.sound)

pub version_noted : (old new : State) (r : Result (Unit {0}) Fault) → Ran note_text [] old new r
    → IfDone (Gained desk_schema.tables desk_schema.tables with_version) old new r
version_noted = gained_by note_text [] with_version version_noted_schema version_noted_in

abbrev drop_text : List ℕ
drop_text = codes "DELETE FROM meta"

abbrev drop_program : ℕ → Program
drop_program tree = record { lets = []; body = query_on tree [] (col 1 0 ∷ []) [] }

drop_is : IsWrite drop_text 0 0 (λ place at. Delete place (drop_program at))
unfolding everything
drop_is = record {
  from = λ at not_null. (refl, refl, refl, refl);
  is = λ place at not_null. record { is = refl; plain = (refl, refl); suits = (refl, refl) };
}

none_left : {X : Type 0} (xs : List X) → [] ≡ filter (λ x. not true) xs
none_left [] = refl
none_left (x ∷ xs) = none_left xs

version_dropped_in : (old new : State) (count : ℕ) (rows : ℕ → List Row)
    → Executes drop_text [] old new (Ok count) → HasRows rows old.now
    → HasRows (without_version rows) new.now
version_dropped_in old new count rows ran has =
    let this = d.meta_table in
    deleted this.name 0 this.columns this.key this.primary this.uniques this.orders 0 refl drop_text
    [] rows (without_version rows)
    (λ n. absurd (n refl), (λ n. refl, (λ n. refl, (λ n. refl, (λ n. refl, (λ n. refl, (λ n. refl, (λ n. refl, (λ n. refl, (λ n. refl, (λ n. refl, (λ n. refl, (λ n. refl, (λ n. refl, (λ n. refl, (λ n. refl, tt))))))))))))))))
    old new count ran has [] (λ x. true) drop_is (λ r. refl)
    (IsPermutation-same _ _ (none_left (rows 0)))

version_dropped_schema : (old new : State) (count : ℕ) → Executes drop_text [] old new (Ok count)
    → HasDesk old.now.schema → (new.now.schema ≡ old.now.schema) × IsDatabase new.now
version_dropped_schema old new count ran desk =
    let schema = old.now.schema in
    let meta = entry schema desk d.meta_table has_meta in
    let command = Delete meta.place (drop_program meta.tree) in
    let w = runs_as drop_text [] old new schema refl command
    (writes_here drop_is d.meta_table has_meta refl schema desk)
    (plain_write drop_is d.meta_table has_meta refl schema desk) count ran in
    (schema_kept old [] new.now w.tally command (slice_get schema.tables meta.place) w.changed, w.sound)

pub version_dropped : (old new : State) (r : Result (Unit {0}) Fault) → Ran drop_text [] old new r
    → IfDone (Gained desk_schema.tables desk_schema.tables without_version) old new r
version_dropped = gained_by drop_text [] without_version version_dropped_schema version_dropped_in

-- ---- the profiles

module _ (name : List ℕ) (tree : ℕ) (columns : List Column) (key : Option ℕ) (primary : List ℕ)
    (uniques : List (List ℕ)) (orders : List Order) where
  abbrev this : Table
  this = table_of name tree columns key primary uniques orders

  -- an INSERT of the answers of a query is one step of its table
  inserts_found : (schema : Schema) (place : ℕ) (listed : slice_get schema.tables place ≡ Some this)
      (s : State) (has : s.now.schema ≡ schema) (text : List ℕ) (new : Database) (tally : Tally)
      (q : Program)
      → Does s.step_limit (mode_of s) [] s.now text None (Insert place (Query q)) (Ok (tally, new))
      → (sources : List Row) × Answers (at schema s.now.trees) q [] sources
      × Stepped schema s.now new (edit_of s.now.trees this [] Chosen 0 sources)
  inserts_found schema place listed s has text new tally q did =
      let db = s.now.trees in
      let it = rw (has, listed) at did in
      let done = went it in
      let now : new ≡ at schema done.0.trees =
      ap (λ (p : Tally × Database). p.1) (same_value (went (went done.2).2).2) in
      let given = went done.1 in
      let written = went (went given.2).2 in
      let counted = went written.2 in
      let trees : done.0.trees ≡ written.0 = ap (λ (it : Written). it.trees) (same_value counted.2)
      ∙ same_value counted.1 in
      let applies = one_step schema Enforced db written.0 (edit_of db this [] Chosen 0 given.0)
      (no_works schema Enforced 0 tree (edit_of db this [] Chosen 0 given.0).news) written.1 in
      let next : written.0 ≡ new.trees = sym (ap (λ (d : Database). d.trees) now ∙ trees) in (
        given.0,
        given.1,
        record {
          schema_is = ap (λ (d : Database). d.schema) now;
          applies = subst (λ next. Applies schema Enforced db
              (edit_of db this [] Chosen 0 given.0) next) next applies;
        },
      )

abbrev source_of : Row → Row
source_of r = column r 0 ∷ Null ∷ number 1 ∷ []

abbrev reading_of : Row → Row
reading_of r = column r 0 ∷ number 1 ∷ []

int_cell : (x : Value) → is_int x ≡ true → (n : ℤ) × (x ≡ Int n)
int_cell (Int n) is = (n, refl)
int_cell x is = absurd (cc)

-- the answers of the query
sources_are : (schema : Schema) (trees : Trees) (tree : ℕ) (sources : List Row)
    → Answers (at schema trees) (readings_query tree) [] sources
    → IsPermutation (map source_of (trees tree)) sources
sources_are schema trees tree sources answers =
    let documents = trees tree in
    let terms = col 1 0 ∷ lit Null ∷ lit (number 1) ∷ [] in
    let q : SqlQuery = query_on tree [] terms [] in
    let a = answers.answer Null in
    let plain : IsAnswer q (overlay trees []) [] sources =
    record {
      staged = a.staged;
      grouped = a.grouped;
      kept = a.kept;
      distinct = a.distinct;
      ordered = a.ordered;
      same = a.same;
      sorted = a.sorted;
      shown = a.shown;
    } in
    let out = λ (r : Row). output q (env [] r) in
    let it = selected tree [] terms [] trees [] sources plain in
    let outs : IsPermutation (map out documents) it.ordered =
    subst (λ l. IsPermutation (map out l) it.ordered)
    (filter_all (λ (r : Row). true) documents (each documents)) it.same in
    subst₂ (λ xs ys. IsPermutation xs ys) (map-map (λ (o : Output). o.1) out documents)
    (sym it.shown) (IsPermutation-map (λ (o : Output). o.1) _ _ outs)

module _ (documents sources : List Row)
    (keyed : AllByRecursion (λ r. is_int (rowid r) ≡ true) documents)
    (same : IsPermutation (map source_of documents) sources) where
  each_is : (s : Row) → Has sources s → (n : ℤ) × (s ≡ Int n ∷ Null ∷ number 1 ∷ [])
  each_is s there =
      let from = has_mapped source_of documents s
      (has_permuted (map source_of documents) sources s same there) in
      let whole = int_cell (column from.0 0)
      (all_has (λ r. is_int (rowid r) ≡ true) documents from.0 keyed from.1) in
      (whole.0, from.2 ∙ ap (λ v. v ∷ Null ∷ number 1 ∷ []) whole.1)

-- what is stored of them, in whatever tree the table is
shows_each : (tree : ℕ) (not_null : Bool) (sources : List Row)
    → ((s : Row) → Has sources s → (n : ℤ) × (s ≡ Int n ∷ Null ∷ number 1 ∷ []))
    → Shows d.reading_table.name tree (columns_with (Some 0) not_null 0 d.reading_table.columns)
    d.reading_table.key d.reading_table.primary d.reading_table.uniques d.reading_table.orders
    sources (map reading_of sources)
shows_each tree not_null [] are = tt
shows_each tree not_null (s ∷ ss) are = (
  λ stored. let it = are s (inl refl) in
      rw (it.1, cast_int it.0, cast_int (pos 1)) refl,
  shows_each tree not_null ss (λ s there. are s (inr there)),
)

-- the rows of the profiles
readings_more : (rows : ℕ → List Row) (documents : List Row)
    → IsPermutation (rows 4) (map (cells d.document_table) documents) → (sources : List Row)
    → IsPermutation (map source_of documents) sources
    → IsPermutation (with_readings rows 27) (map reading_of sources ++ rows 27)
readings_more rows documents stored sources same =
    let firsts : IsPermutation (first_readings (rows 4)) (map reading_of documents) =
    subst (IsPermutation (first_readings (rows 4)))
    (map-map (λ (document : Row). column document 0 ∷ number 1 ∷ []) (cells d.document_table)
    documents) (IsPermutation-map (λ (document : Row). column document 0 ∷ number 1 ∷ []) _ _
    stored) in
    let seconds : IsPermutation (map reading_of documents) (map reading_of sources) =
    subst (λ xs. IsPermutation xs (map reading_of sources))
    (map-map reading_of source_of documents) (IsPermutation-map reading_of _ _ same) in
    IsPermutation-append _ _ _ _ (IsPermutation-trans _ _ _ firsts seconds)
    (IsPermutation-refl (rows 27))

module _ (old new : State) (count : ℕ) (ran : Executes readings_text [] old new (Ok count))
    (desk : HasDesk old.now.schema) where
  abbrev schema : Schema
  schema = old.now.schema

  abbrev own : HasTable schema d.reading_table
  own = entry schema desk d.reading_table has_readings

  abbrev from : ℕ
  from = source schema desk

  readings_step : (sources : List Row)
      × Answers (at schema old.now.trees) (readings_query from) [] sources
      × Stepped schema old.now new.now (edit_of old.now.trees
      (actual schema desk d.reading_table has_readings) [] Chosen 0 sources) × IsDatabase new.now
  readings_step =
      let this = d.reading_table in
      let w = runs_as readings_text [] old new schema refl
      (Insert own.place (Query (readings_query from))) (readings_here schema desk)
      (readings_plain schema desk) count ran in
      let step = inserts_found this.name own.tree
      (columns_with this.key own.not_null 0 this.columns) this.key this.primary this.uniques
      this.orders schema own.place own.listed old refl
      (statement_of readings_text (understood schema readings_text)) new.now w.tally
      (readings_query from) w.changed in
      (step.0, step.1, step.2, w.sound)

others_same : (rows : ℕ → List Row) → AllByRecursion (λ (u : Table). u.tree ≢ 27
    → with_readings rows u.tree ≡ rows u.tree) desk_schema.tables
others_same rows = (λ n. refl, (λ n. refl, (λ n. refl, (λ n. refl, (λ n. refl, (λ n. refl, (λ n. refl, (λ n. refl, (λ n. refl, (λ n. refl, (λ n. refl, (λ n. refl, (λ n. refl, (λ n. refl, (λ n. absurd (n refl), (λ n. refl, tt))))))))))))))))

readings_noted_schema : (old new : State) (count : ℕ) → Executes readings_text [] old new (Ok count)
    → HasDesk old.now.schema → (new.now.schema ≡ old.now.schema) × IsDatabase new.now
readings_noted_schema old new count ran desk =
    let step = readings_step old new count ran desk in (step.2.schema_is, step.3)

readings_noted_in : (old new : State) (count : ℕ) (rows : ℕ → List Row)
    → Executes readings_text [] old new (Ok count) → HasRows rows old.now
    → HasRows (with_readings rows) new.now
readings_noted_in old new count rows ran has =
    let this = d.reading_table in
    let schema = old.now.schema in
    let desk = has.declared in
    let own = entry schema desk this has_readings in
    let noted = columns_with this.key own.not_null 0 this.columns in
    let step = readings_step old new count ran desk in
    let documents = old.now.trees (source schema desk) in
    let stored : AreStored d.document_table (rows 4) documents =
    subst (λ n. AreStored d.document_table (rows 4) (old.now.trees n))
    (tree_is schema desk d.document_table has_documents) has.stored.1.1.1.0 in
    let same = sources_are schema old.now.trees (source schema desk) step.0 step.1 in
    let shows = shows_each own.tree own.not_null step.0
    (each_is documents step.0 stored.keyed same) in
    let others = others_same rows in
    all_after this has_readings rows (with_readings rows) others old.now new.now has
    step.2.schema_is step.2.applies.tables (map reading_of step.0 ++ rows 27)
    (after_insert this.name own.tree noted this.key this.primary this.uniques this.orders schema
    (rows 27) old.now new.now
    (mine this has_readings rows (with_readings rows) others old.now new.now has) step.0
    (map reading_of step.0) shows step.2)
    (readings_more rows documents stored.same step.0 same) step.3

pub readings_noted : (old new : State) (r : Result (Unit {0}) Fault)
    → Ran readings_text [] old new r
    → IfDone (Gained desk_schema.tables desk_schema.tables with_readings) old new r
readings_noted = gained_by readings_text [] with_readings readings_noted_schema readings_noted_in
