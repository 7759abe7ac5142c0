-- What INSERT, DELETE and UPDATE make of the rows of the desk's tables.
use Rattle.std.proofs.Common.{◌≡◌, ◌≢◌, ℕ, Bool, not, List, [], ◌∷◌, ◌++◌, filter, length}
use Rattle.std.proofs.Common.{slice_get, Option, Some, Ok, refl, sym, ap, subst, ◌∙◌}
use Rattle.std.specs.Prelude.{◌/◌}
use Rattle.std.specs.List.{AllByRecursion, AllZip}
use Rattle.std.specs.List.Sorted.{IsPermutation}
use Rattle.sqlite_value.specs.declared.keys.Order.{Order}
use Rattle.sqlite_value.specs.Order.{Row}
use Rattle.sqlite_sql.specs.Term.{Term, col, eval_all}
use Rattle.sqlite_schema.specs.declared.schema.Column.{Column}
use Rattle.sqlite_schema.specs.declared.schema.Table.{Table}
use Rattle.sqlite_schema.specs.declared.program.Program.{Program}
use Rattle.sqlite_schema.specs.declared.command.Command.TheVariants.{Insert, Update, Delete}
use Rattle.sqlite_schema.specs.declared.command.Source.TheVariants.{Values}
use Rattle.sqlite_rules.specs.declared.error.Rowids.TheVariants.{Chosen}
use Rattle.sqlite_rules.specs.Cast.{cast_row}
use Rattle.sqlite_rules.specs.Edit.{with_rowid}
use Rattle.sqlite_rules.specs.Lists.{Has}
use Rattle.sqlite_rules.proofs.ListLemmas.{all_from, all_has, has_got}
use Rattle.sqlite_rules.proofs.RuleLemmas.{same_table}
use Rattle.sqlite_schema.specs.declared.schema.Schema.{Schema}
use Rattle.sqlite.specs.Effect.{Database, IsDatabase, value_rows}
use Rattle.sqlite.specs.Listing.{understood}
use Rattle.sqlite.specs.State.{State, Executes}
use Rattle.sqlite.proofs.Callers.{statement_of, runs_as}
use Rattle.desk_sql_layout.specs.Layout.{desk_schema, table_of}
use Rattle.desk_sql_layout.specs.Stored.{cells, AreStored}
use Rattle.desk_sql_layout.specs.Held.{HasRows, labelled}
use Rattle.desk_sql_layout.specs.Desk.{HasDesk, HasTable, columns_with, found_as, tree_in}
use Rattle.desk_sql_layout.proofs.Declared.{actual, alone_in, apart_in, cast_same, cells_same}
use Rattle.desk_sql_layout.proofs.Declared.{entry, in_tables, stored_found, stored_same, tree_is}
use Rattle.desk_sql_layout.proofs.Keeps.{all_stored_after}
use Rattle.desk_sql_layout.proofs.Writing.{IsWrite, plain_write, writes_here}
use Rattle.desk_sql_layout.proofs.Edits.{changed_where}
use Rattle.desk_sql_layout.proofs.Queries.{query_on, passes, env}
use Rattle.desk_sql_layout.proofs.Steps.{inserts, deletes, updates}
use Rattle.desk_sql_layout.proofs.Writes.{AreApart, Shows, after_insert, after_delete, after_update}
use Rattle.desk_sql_layout.proofs.Writes.{stored_as}

pub apart : AreApart desk_schema
apart = (
  (
    λ e. absurd (cc),
    (
      λ e. absurd (cc),
      (
        λ e. absurd (cc),
        (
          λ e. absurd (cc),
          (
            λ e. absurd (cc),
            (
              λ e. absurd (cc),
              (
                λ e. absurd (cc),
                (
                  λ e. absurd (cc),
                  (
                    λ e. absurd (cc),
                    (
                      λ e. absurd (cc),
                      (
                        λ e. absurd (cc),
                        (λ e. absurd (cc), (λ e. absurd (cc), (λ e. absurd (cc), (λ e. absurd (cc), tt)))),
                      ),
                    ),
                  ),
                ),
              ),
            ),
          ),
        ),
      ),
    ),
  ),
  (
    (
      λ e. absurd (cc),
      (
        λ e. absurd (cc),
        (
          λ e. absurd (cc),
          (
            λ e. absurd (cc),
            (
              λ e. absurd (cc),
              (
                λ e. absurd (cc),
                (
                  λ e. absurd (cc),
                  (
                    λ e. absurd (cc),
                    (
                      λ e. absurd (cc),
                      (
                        λ e. absurd (cc),
                        (
                          λ e. absurd (cc),
                          (
                            λ e. absurd (cc),
                            (λ e. absurd (cc), (λ e. absurd (cc), tt)),
                          ),
                        ),
                      ),
                    ),
                  ),
                ),
              ),
            ),
          ),
        ),
      ),
    ),
    (
      (
        λ e. absurd (cc),
        (
          λ e. absurd (cc),
          (
            λ e. absurd (cc),
            (
              λ e. absurd (cc),
              (
                λ e. absurd (cc),
                (
                  λ e. absurd (cc),
                  (
                    λ e. absurd (cc),
                    (
                      λ e. absurd (cc),
                      (
                        λ e. absurd (cc),
                        (λ e. absurd (cc), (λ e. absurd (cc), (λ e. absurd (cc), (λ e. absurd (cc), tt)))),
                      ),
                    ),
                  ),
                ),
              ),
            ),
          ),
        ),
      ),
      (
        (
          λ e. absurd (cc),
          (
            λ e. absurd (cc),
            (
              λ e. absurd (cc),
              (
                λ e. absurd (cc),
                (
                  λ e. absurd (cc),
                  (
                    λ e. absurd (cc),
                    (
                      λ e. absurd (cc),
                      (
                        λ e. absurd (cc),
                        (
                          λ e. absurd (cc),
                          (λ e. absurd (cc), (λ e. absurd (cc), (λ e. absurd (cc), tt))),
                        ),
                      ),
                    ),
                  ),
                ),
              ),
            ),
          ),
        ),
        (
          (
            λ e. absurd (cc),
            (
              λ e. absurd (cc),
              (
                λ e. absurd (cc),
                (
                  λ e. absurd (cc),
                  (
                    λ e. absurd (cc),
                    (
                      λ e. absurd (cc),
                      (
                        λ e. absurd (cc),
                        (
                          λ e. absurd (cc),
                          (
                            λ e. absurd (cc),
                            (λ e. absurd (cc), (λ e. absurd (cc), tt)),
                          ),
                        ),
                      ),
                    ),
                  ),
                ),
              ),
            ),
          ),
          (
            (
              λ e. absurd (cc),
              (
                λ e. absurd (cc),
                (
                  λ e. absurd (cc),
                  (
                    λ e. absurd (cc),
                    (
                      λ e. absurd (cc),
                      (
                        λ e. absurd (cc),
                        (λ e. absurd (cc), (λ e. absurd (cc), (λ e. absurd (cc), (λ e. absurd (cc), tt)))),
                      ),
                    ),
                  ),
                ),
              ),
            ),
            (
              (
                λ e. absurd (cc),
                (
                  λ e. absurd (cc),
                  (
                    λ e. absurd (cc),
                    (
                      λ e. absurd (cc),
                      (
                        λ e. absurd (cc),
                        (
                          λ e. absurd (cc),
                          (λ e. absurd (cc), (λ e. absurd (cc), (λ e. absurd (cc), tt))),
                        ),
                      ),
                    ),
                  ),
                ),
              ),
              (
                (
                  λ e. absurd (cc),
                  (
                    λ e. absurd (cc),
                    (
                      λ e. absurd (cc),
                      (
                        λ e. absurd (cc),
                        (
                          λ e. absurd (cc),
                          (
                            λ e. absurd (cc),
                            (λ e. absurd (cc), (λ e. absurd (cc), tt)),
                          ),
                        ),
                      ),
                    ),
                  ),
                ),
                (
                  (
                    λ e. absurd (cc),
                    (
                      λ e. absurd (cc),
                      (
                        λ e. absurd (cc),
                        (λ e. absurd (cc), (λ e. absurd (cc), (λ e. absurd (cc), (λ e. absurd (cc), tt)))),
                      ),
                    ),
                  ),
                  (
                    (
                      λ e. absurd (cc),
                      (
                        λ e. absurd (cc),
                        (
                          λ e. absurd (cc),
                          (λ e. absurd (cc), (λ e. absurd (cc), (λ e. absurd (cc), tt))),
                        ),
                      ),
                    ),
                    (
                      (
                        λ e. absurd (cc),
                        (
                          λ e. absurd (cc),
                          (
                            λ e. absurd (cc),
                            (λ e. absurd (cc), (λ e. absurd (cc), tt)),
                          ),
                        ),
                      ),
                      (
                        (λ e. absurd (cc), (λ e. absurd (cc), (λ e. absurd (cc), (λ e. absurd (cc), tt)))),
                        (
                          (λ e. absurd (cc), (λ e. absurd (cc), (λ e. absurd (cc), tt))),
                          ((λ e. absurd (cc), (λ e. absurd (cc), tt)), ((λ e. absurd (cc), tt), (tt, tt))),
                        ),
                      ),
                    ),
                  ),
                ),
              ),
            ),
          ),
        ),
      ),
    ),
  ),
)

-- ---- the other tables stay as they were

module _ (t : Table) (there : Has desk_schema.tables t) (rows after : ℕ → List Row)
    (same : AllByRecursion (λ u. u.tree ≢ t.tree → after u.tree ≡ rows u.tree) desk_schema.tables)
    (old new : Database) (has : HasRows rows old) where
  abbrev in_old : Table
  in_old = actual old.schema has.declared t there

  abbrev real : ℕ
  real = (entry old.schema has.declared t there).tree

  rows_are : labelled old t.tree ≡ old.trees real
  rows_are = ap old.trees (tree_is old.schema has.declared t there)

  -- the rows that the table shows, as the schema has it
  pub mine : AreStored in_old (rows t.tree) (old.trees real)
  mine = stored_found t real (entry old.schema has.declared t there).not_null (rows t.tree)
      (old.trees real) (subst (AreStored t (rows t.tree)) rows_are
      (all_has (λ u. AreStored u (rows u.tree) (labelled old u.tree)) desk_schema.tables t
      has.stored there))

  module _ (schema_is : new.schema ≡ old.schema)
      (tables : AllByRecursion (λ u. u.tree ≢ real → new.trees u.tree ≡ old.trees u.tree)
      old.schema.tables) where
    kept : (u : Table) → Has desk_schema.tables u → u.tree ≢ t.tree
        → labelled new u.tree ≡ labelled old u.tree
    kept u here apart =
        let tree = tree_is old.schema has.declared u here in
        let other : (entry old.schema has.declared u here).tree ≢ real = λ e.
        apart (apart_in old.schema has.declared u t here there
        (tree ∙ e ∙ sym (tree_is old.schema has.declared t there))) in
        ap (λ s. new.trees (tree_in s u.tree)) schema_is ∙ ap new.trees tree
        ∙ all_has (λ (v : Table). v.tree ≢ real → new.trees v.tree ≡ old.trees v.tree)
        old.schema.tables (actual old.schema has.declared u here) tables
        (in_tables old.schema has.declared u here) other
        ∙ sym (ap old.trees tree)

    pub all_after : (shown : List Row) → AreStored in_old shown (new.trees real)
        → IsPermutation (after t.tree) shown → IsDatabase new → HasRows after new
    all_after shown are perm sound =
        let not_null = (entry old.schema has.declared t there).not_null in
        let rows_new : labelled new t.tree ≡ new.trees real =
        ap (λ s. new.trees (tree_in s t.tree)) schema_is
        ∙ ap new.trees (tree_is old.schema has.declared t there) in
        let now : AreStored t (after t.tree) (labelled new t.tree) =
        stored_as t shown (after t.tree) (labelled new t.tree) perm
        (subst (AreStored t shown) (sym rows_new)
        (stored_same t real not_null shown (new.trees real) are)) in
        record {
          declared = subst HasDesk (sym schema_is) has.declared;
          stored = all_stored_after desk_schema rows after (labelled old) (labelled new) t.tree
              has.stored
              (all_from (λ u. u.tree ≢ t.tree → labelled new u.tree ≡ labelled old u.tree)
              desk_schema.tables kept) same
              (all_from (λ u. u.tree ≡ t.tree → AreStored u (after u.tree) (labelled new u.tree))
              desk_schema.tables
              (λ u here e. subst (λ (v : Table). AreStored v (after v.tree) (labelled new v.tree))
              (sym (same_table desk_schema.tables u t apart here there e)) now));
          sound = sound;
        }

-- what is shown of a row doesn't hang on NOT NULL on the rowid
shows_found : (t : Table) (tree : ℕ) (not_null : Bool) (sources wanted : List Row)
    → AllZip (λ source x. (stored : List Row)
    → cells t (with_rowid Chosen stored (cast_row t source)) ≡ x) sources wanted
    → AllZip (λ source x. (stored : List Row)
    → cells (found_as t tree not_null) (with_rowid Chosen stored
    (cast_row (found_as t tree not_null) source)) ≡ x) sources wanted
shows_found t tree not_null [] [] h = tt
shows_found t tree not_null [] (w ∷ wanted) h = absurd h
shows_found t tree not_null (s ∷ sources) [] h = absurd h
shows_found t tree not_null (s ∷ sources) (w ∷ wanted) h = (
  λ stored. ap (λ r. cells (found_as t tree not_null) (with_rowid Chosen stored r))
      (cast_same t tree not_null s)
      ∙ cells_same t tree not_null (with_rowid Chosen stored (cast_row t s)) ∙ h.0 stored,
  shows_found t tree not_null sources wanted h.1,
)

module _ (name : List ℕ) (tree : ℕ) (columns : List Column) (key : Option ℕ) (primary : List ℕ)
    (uniques : List (List ℕ)) (orders : List Order) where
  abbrev this : Table
  this = table_of name tree columns key primary uniques orders

  module _ (place : ℕ) (listed : slice_get desk_schema.tables place ≡ Some this) (sql : List ℕ)
      (params : Row) (rows after : ℕ → List Row)
      (same : AllByRecursion (λ t. t.tree ≢ tree → after t.tree ≡ rows t.tree) desk_schema.tables)
      (old new : State) (count : ℕ) (ran : Executes sql params old new (Ok count))
      (has : HasRows rows old.now) where
    there : Has desk_schema.tables this
    there = has_got desk_schema.tables place this listed

    abbrev schema : Schema
    schema = old.now.schema

    abbrev own : HasTable schema this
    own = entry schema has.declared this there

    abbrev noted : List Column
    noted = columns_with key own.not_null 0 columns

    abbrev found : Table
    found = table_of name own.tree noted key primary uniques orders

    were : AreStored found (rows tree) (old.now.trees own.tree)
    were = mine this there rows after same old.now new.now has

    -- several rows in one statement
    pub all_inserted : {parameters : ℕ} (terms : List Term) (width : ℕ) (sources wanted : List Row)
        → IsWrite sql parameters tree (λ place at. Insert place (Values terms width))
        → value_rows params width (length terms / width) terms ≡ sources
        → Shows name tree columns key primary uniques orders sources wanted
        → IsPermutation (after tree) (wanted ++ rows tree) → HasRows after new.now
    all_inserted terms width sources wanted it source shows perm =
        let w = runs_as sql params old new schema refl (Insert own.place (Values terms width))
        (writes_here it this there refl schema has.declared)
        (plain_write it this there refl schema has.declared) count ran in
        let step = inserts name own.tree noted key primary uniques orders schema own.place
        own.listed
        (alone_in schema has.declared) old refl params (statement_of sql (understood schema sql))
        new.now w.tally terms width sources source w.changed in
        all_after this there rows after same old.now new.now has step.schema_is step.applies.tables
        (wanted ++ rows tree)
        (after_insert name own.tree noted key primary uniques orders schema (rows tree) old.now
        new.now were sources wanted
        (shows_found this own.tree own.not_null sources wanted shows) step) perm w.sound

    pub inserted : {parameters : ℕ} (terms : List Term) (width : ℕ) (row wanted : Row)
        → IsWrite sql parameters tree (λ place at. Insert place (Values terms width))
        → value_rows params width (length terms / width) terms ≡ row ∷ []
        → ((stored : List Row) → cells this (with_rowid Chosen stored (cast_row this row)) ≡ wanted)
        → IsPermutation (after tree) (wanted ∷ rows tree) → HasRows after new.now
    inserted terms width row wanted it source shows perm = all_inserted terms width (row ∷ [])
        (wanted ∷ []) it source (shows, tt) perm

    pub deleted : {parameters : ℕ} (tests : List Term) (q : Row → Bool)
        → IsWrite sql parameters tree (λ place at. Delete place
        (record { lets = []; body = query_on at tests (col 1 0 ∷ []) [] }))
        → ((r : Row) → passes tests params r ≡ q (cells this r))
        → IsPermutation (after tree) (filter (λ x. not (q x)) (rows tree)) → HasRows after new.now
    deleted tests q it agree perm =
        let program : Program = record {
          lets = [];
          body = query_on own.tree tests (col 1 0 ∷ []) [];
        } in
        let w = runs_as sql params old new schema refl (Delete own.place program)
        (writes_here it this there refl schema has.declared)
        (plain_write it this there refl schema has.declared) count ran in
        let step = deletes name own.tree noted key primary uniques orders schema own.place
        own.listed
        (alone_in schema has.declared) old refl params (statement_of sql (understood schema sql))
        new.now w.tally program w.changed in
        all_after this there rows after same old.now new.now has step.2.schema_is
        step.2.applies.tables (filter (λ x. not (q x)) (rows tree))
        (after_delete name own.tree noted key primary uniques orders schema (rows tree) old.now
        new.now were tests params step.0 q
        (λ r. agree r ∙ ap q (sym (cells_same this own.tree own.not_null r))) step.1 step.2) perm
        w.sound

    pub updated : {parameters : ℕ} (tests project : List Term) (q : Row → Bool) (u : Row → Row)
        → IsWrite sql parameters tree (λ place at. Update place
        (record { lets = []; body = query_on at tests (col 1 0 ∷ project) [] }))
        → ((r : Row) → passes tests params r ≡ q (cells this r))
        → ((r : Row) → cells this (cast_row this (eval_all project (env params r)))
        ≡ u (cells this r))
        → IsPermutation (after tree) (changed_where q u (rows tree)) → HasRows after new.now
    updated tests project q u it agree acts perm =
        let program : Program = record {
          lets = [];
          body = query_on own.tree tests (col 1 0 ∷ project) [];
        } in
        let w = runs_as sql params old new schema refl (Update own.place program)
        (writes_here it this there refl schema has.declared)
        (plain_write it this there refl schema has.declared) count ran in
        let step = updates name own.tree noted key primary uniques orders schema own.place
        own.listed
        (alone_in schema has.declared) old refl params (statement_of sql (understood schema sql))
        new.now w.tally program w.changed in
        all_after this there rows after same old.now new.now has step.2.schema_is
        step.2.applies.tables (changed_where q u (rows tree))
        (after_update name own.tree noted key primary uniques orders schema (rows tree) old.now
        new.now were tests project params step.0 q u
        (λ r. agree r ∙ ap q (sym (cells_same this own.tree own.not_null r)))
        (λ r. ap (cells found) (cast_same this own.tree own.not_null
        (eval_all project (env params r)))
        ∙ cells_same this own.tree own.not_null (cast_row this (eval_all project (env params r)))
        ∙ acts r ∙ ap u (sym (cells_same this own.tree own.not_null r))) step.1 step.2) perm w.sound
