-- What each UPDATE does to the tables, and why it fails.
use Rattle.std.proofs.Common.{◌≡◌, ◌≢◌, ◌∙◌, ℕ, pos, Bool, true, false, cond, List, [], ◌∷◌, map}
use Rattle.std.proofs.Common.{length, codes, refl, sym, ap, subst}
use Rattle.std.specs.Prelude.{◌&&◌}
use Rattle.std.specs.List.{AllByRecursion}
use Rattle.std.specs.List.Sorted.{IsPermutation}
use Rattle.sqlite_value.specs.declared.keys.Collation.TheVariants.{Binary}
use Rattle.sqlite_value.specs.declared.value.Value.{Value}
use Rattle.sqlite_value.specs.declared.value.Value.TheVariants.{Null, Int, Text}
use Rattle.sqlite_value.specs.Order.{Row, column}
use Rattle.sqlite_trees.specs.Tree.{Trees, rowid}
use Rattle.sqlite_trees.specs.View.{is_int}
use Rattle.sqlite_trees.proofs.ListLemmas.{IsPermutation-same}
use Rattle.sqlite_sql.specs.declared.ops.BinaryOp.TheVariants.{Compare}
use Rattle.sqlite_sql.specs.declared.ops.CompareOp.TheVariants.{Ge, Le}
use Rattle.sqlite_sql.specs.Ops.{binary, is_true}
use Rattle.sqlite_sql.specs.Term.{Term, lit, col}
use Rattle.sqlite_schema.specs.declared.schema.Kind.TheVariants.{Integer, Text as Words}
use Rattle.sqlite_schema.specs.declared.schema.Table.{Table}
use Rattle.sqlite_schema.specs.declared.command.Command.TheVariants.{Update}
use Rattle.sqlite_typing.specs.Types.{accepts_program}
use Rattle.sqlite_rules.specs.Cast.{cast}
use Rattle.sqlite_rules.specs.Edit.{id_in}
use Rattle.sqlite_rules.proofs.TableLemmas.{int_is}
use Rattle.sqlite_tied.specs.Compute.{everything}
use Rattle.desk_model.specs.Lists.{updated as changed}
use Rattle.desk_model.specs.Keys.{is_release, is_duty}
use Rattle.desk_model.specs.Names.{release_state_name, duty_state_name}
use Rattle.desk_model.specs.Tables.{Tables, with_release_state, withdrawn_release, with_duty_state}
use Rattle.desk_model.specs.declared.row.DutyRow.{DutyRow}
use Rattle.desk_model.specs.declared.state.ReleaseState.TheVariants.{Frozen, Withdrawn}
use Rattle.desk_model.specs.declared.state.DutyState.{DutyState}
use Rattle.desk_sql_layout.specs.Layout as d
use Rattle.desk_sql_layout.specs.Cells.{number, duty_cells}
use Rattle.desk_sql_layout.specs.Held.{rows_of}
use Rattle.desk_sql_layout.specs.Stored.{cells}
use Rattle.desk_sql_layout.proofs.Casts.{cast_int, cast_null, run_test, same, within}
use Rattle.desk_sql_layout.proofs.Edits.{changed_where}
use Rattle.desk_sql_layout.proofs.Queries.{query_on}
use Rattle.desk_sql_layout.proofs.Selecting.{as_declared}
use Rattle.desk_sql_layout.proofs.Writing.{IsWrite}
use Rattle.desk_sql_layout.proofs.Tests.{equals, last_text_test, number_test}
use Rattle.desk_sql_layout.proofs.Views.{View, duty_view, release_view}
use Rattle.desk_sql_write.specs.Runs.{is_numbered}
use Rattle.desk_sql_write.specs.Taking.{IsSmall}
use Rattle.desk_sql_write.proofs.Failing.{Makes}
use Rattle.desk_sql_write.proofs.Behind.{not_other}
use Rattle.desk_sql_write.proofs.Inserts.{Suiting, Takes, duties, releases, suit_each}
use Rattle.desk_sql_write.proofs.Updating.{Remakes, updated_turns}

-- a change of rows as a change of their cells
changed_cells : {X : Type 0} (cells : X → Row) (test : X → Bool) (change : X → X) (q : Row → Bool)
    (u : Row → Row) → ((x : X) → q (cells x) ≡ test x) → ((x : X) → u (cells x) ≡ cells (change x))
    → (xs : List X) → map cells (changed test change xs) ≡ changed_where q u (map cells xs)
changed_cells cells test change q u tested acts [] = refl
changed_cells cells test change q u tested acts (x ∷ xs) =
    let here = either_way (test x)
    ∙ (λ i. cond (sym (tested x) i) (sym (acts x) i) (cells x)) in
    (λ i. here i ∷ changed_cells cells test change q u tested acts xs i)
  where
    either_way : (b : Bool) → cells (cond b (change x) x) ≡ cond b (cells (change x)) (cells x)
    either_way true = refl
    either_way false = refl

cast_rowid : (v : Value) → is_int v ≡ true → cast Integer v ≡ Int (id_in v)
cast_rowid v whole = ap (cast Integer) (int_is v whole) ∙ cast_int (id_in v)

rowid_stays : (v : Value) → is_int v ≡ true → cast Integer v ≡ v
rowid_stays v whole = cast_rowid v whole ∙ sym (int_is v whole)

-- a text makes the rows that pass anew from these terms
abbrev IsChange : List ℕ → ℕ → ℕ → ℕ → List Term → List Term → Type 0
IsChange text count place tree tests project = IsWrite text count tree
    (λ at_place at. Update at_place (record {
      lets = [];
      body = query_on at tests (col 1 0 ∷ project) [];
    }))

abbrev IsMade : Table → Row → List Term → List Term → (Row → Bool) → (Row → Row) → Type 0
IsMade at =
    Remakes at.name at.tree at.columns at.key at.primary at.uniques at.orders

module _ {X : Type 0} (view : View X) {width : ℕ}
    (takes : Takes view.table view.cells_of view.place width) (test : X → Bool) (change : X → X)
    (made : Tables → Tables)
    (mine : (t : Tables) → view.held (made t) ≡ changed test change (view.held t))
    (others : (t : Tables) → AllByRecursion
    (λ u. u.tree ≢ view.table.tree → rows_of (made t) u.tree ≡ rows_of t u.tree)
    d.desk_schema.tables) where
  abbrev this : Table
  this = as_declared view.table

  abbrev tree : ℕ
  tree = view.table.tree

  now_is : (q : Row → Bool) (u : Row → Row) → ((x : X) → q (view.cells_of x) ≡ test x)
      → ((x : X) → u (view.cells_of x) ≡ view.cells_of (change x)) → (t : Tables)
      → IsPermutation (rows_of (made t) tree) (changed_where q u (rows_of t tree))
  now_is q u tested acts t = IsPermutation-same _ _ (view.here (made t)
      ∙ ap (map view.cells_of) (mine t)
      ∙ changed_cells view.cells_of test change q u tested acts (view.held t)
      ∙ sym (ap (changed_where q u) (view.here t)))

  suits : (t : Tables) (trees : Trees)
      → AllByRecursion (AllByRecursion IsSmall) (rows_of (made t) tree)
      → AllByRecursion (Suiting takes trees) (rows_of (made t) tree)
  suits t trees = subst (λ rows. AllByRecursion (AllByRecursion IsSmall) rows
      → AllByRecursion (Suiting takes trees) rows) (sym (view.here (made t)))
      (suit_each takes trees (view.held (made t)))

  changes : (text : List ℕ) (params : Row) (tests project : List Term) (q : Row → Bool)
      (u : Row → Row) → IsChange text (length params) view.place tree tests project
      → accepts_program d.desk_schema [] (query_on tree tests (col 1 0 ∷ project) []) params ≡ true
      → IsMade view.table params tests project q u
      → ((x : X) → q (view.cells_of x) ≡ test x)
      → ((x : X) → u (view.cells_of x) ≡ view.cells_of (change x)) → Makes text params made
  changes text params tests project q u reads accepts it tested turns old new =
      let at = view.table in
      updated_turns at.name at.tree at.columns at.key at.primary at.uniques at.orders rows_of made
      view.place view.listed text params tests project q u reads accepts takes.reals it others
      (now_is q u tested turns) suits old new

-- ---- freeze_release

abbrev freeze_release_text : List ℕ
freeze_release_text = codes "UPDATE releases SET state = ?2, revision = ?3 WHERE name = ?1"

abbrev freeze_release_project : List Term
freeze_release_project = col 1 0 ∷ col 1 1 ∷ col 1 2 ∷ col 1 3 ∷ col 0 1 ∷ col 0 2 ∷ []

freeze_release_reads : IsChange freeze_release_text 3 8 14 (same 1 0 ∷ []) freeze_release_project
unfolding everything
freeze_release_reads = record {
  from = λ at not_null. (refl, refl, refl, refl, refl);
  is = λ place at not_null. record { is = refl; plain = (refl, refl); suits = (refl, refl) };
}

abbrev freeze_release_cells : ℕ → Row → Row
freeze_release_cells revision cs = cast Words (column cs 0) ∷ cast Integer (column cs 1)
    ∷ cast Words (column cs 2) ∷ Text (release_state_name Frozen) ∷ number revision ∷ []

pub release_frozen : (name : List ℕ) (revision : ℕ)
    → Makes freeze_release_text (Text name ∷ Text (release_state_name Frozen) ∷ number revision
    ∷ []) (λ t. record t {
      releases = changed (is_release name) (with_release_state Frozen revision)
          t.releases;
    })
release_frozen name revision =
    changes release_view releases (is_release name) (with_release_state Frozen revision)
    (λ t. record t {
      releases = changed (is_release name) (with_release_state Frozen revision)
          t.releases;
    }) (λ t. refl) (λ t. search not_other) freeze_release_text
    (Text name ∷ Text (release_state_name Frozen) ∷ number revision ∷ []) (same 1 0 ∷ [])
    freeze_release_project (equals ((0, Text name) ∷ [])) (freeze_release_cells revision)
    freeze_release_reads refl
    (record {
      agree = λ r. refl;
      form = λ r whole. rw (cast_rowid (rowid r) whole, cast_int (pos revision)) refl;
      acts = λ r. rw (cast_int (pos revision)) refl;
      stays = λ r. rowid_stays (rowid r);
    })
    (λ row. last_text_test row.name name) (λ row. rw (cast_int (pos row.place)) refl)

-- ---- withdraw_release

abbrev withdraw_release_text : List ℕ
withdraw_release_text = codes "UPDATE releases SET state = ?2 WHERE name = ?1"

abbrev withdraw_release_project : List Term
withdraw_release_project = col 1 0 ∷ col 1 1 ∷ col 1 2 ∷ col 1 3 ∷ col 0 1 ∷ col 1 5 ∷ []

withdraw_release_reads : IsChange withdraw_release_text 2 8 14 (same 1 0 ∷ [])
    withdraw_release_project
unfolding everything
withdraw_release_reads = record {
  from = λ at not_null. (refl, refl, refl, refl, refl);
  is = λ place at not_null. record { is = refl; plain = (refl, refl); suits = (refl, refl) };
}

abbrev withdraw_release_cells : Row → Row
withdraw_release_cells cs = cast Words (column cs 0) ∷ cast Integer (column cs 1)
    ∷ cast Words (column cs 2) ∷ Text (release_state_name Withdrawn) ∷ cast Integer (column cs 4)
    ∷ []

pub release_withdrawn : (name : List ℕ)
    → Makes withdraw_release_text (Text name ∷ Text (release_state_name Withdrawn) ∷ [])
    (λ t. record t { releases = changed (is_release name) (withdrawn_release) t.releases })
release_withdrawn name =
    changes release_view releases (is_release name) withdrawn_release
    (λ t. record t { releases = changed (is_release name) withdrawn_release t.releases })
    (λ t. refl) (λ t. search not_other) withdraw_release_text
    (Text name ∷ Text (release_state_name Withdrawn) ∷ []) (same 1 0 ∷ [])
    withdraw_release_project (equals ((0, Text name) ∷ [])) withdraw_release_cells
    withdraw_release_reads refl
    (record {
      agree = λ r. refl;
      form = λ r whole. rw (cast_rowid (rowid r) whole) refl;
      acts = λ r. refl;
      stays = λ r. rowid_stays (rowid r);
    })
    (λ row. last_text_test row.name name)
    (λ row. rw (cast_int (pos row.place), cast_int (pos row.revision)) refl)

-- ---- set_duty

abbrev set_duty_text : List ℕ
set_duty_text = codes "UPDATE duty SET state = ?2 WHERE number = ?1"

-- the state is this parameter
abbrev duty_project : ℕ → List Term
duty_project state = col 1 0 ∷ lit Null ∷ col 1 2 ∷ col 1 3 ∷ col 1 4 ∷ col 1 5 ∷ col 1 6 ∷ col 1 7
    ∷ col 0 state ∷ []

set_duty_reads : IsChange set_duty_text 2 12 23 (same 0 0 ∷ []) (duty_project 1)
unfolding everything
set_duty_reads = record {
  from = λ at not_null. (refl, refl, refl, refl, refl);
  is = λ place at not_null. record { is = refl; plain = (refl, refl); suits = (refl, refl) };
}

abbrev set_duty_cells : DutyState → Row → Row
set_duty_cells to cs = cast Integer (column cs 0) ∷ cast Words (column cs 1)
    ∷ cast Integer (column cs 2) ∷ cast Words (column cs 3) ∷ cast Words (column cs 4)
    ∷ cast Words (column cs 5) ∷ cast Words (column cs 6) ∷ Text (duty_state_name to) ∷ []

set_duty_turns : (to : DutyState) (row : DutyRow) → set_duty_cells to (duty_cells row)
    ≡ duty_cells (with_duty_state to row)
set_duty_turns to row = rw (cast_int (pos row.number), cast_int (pos row.document)) refl

pub duty_set : (n : ℕ) (to : DutyState)
    → Makes set_duty_text (number n ∷ Text (duty_state_name to) ∷ [])
    (λ t. record t { duty = changed (is_duty n) (with_duty_state to) t.duty })
duty_set n to =
    changes duty_view duties (is_duty n) (with_duty_state to)
    (λ t. record t { duty = changed (is_duty n) (with_duty_state to) t.duty }) (λ t. refl)
    (λ t. search not_other) set_duty_text (number n ∷ Text (duty_state_name to) ∷ [])
    (same 0 0 ∷ []) (duty_project 1) (equals ((0, number n) ∷ [])) (set_duty_cells to)
    set_duty_reads refl
    (record {
      agree = λ r. refl;
      form = λ r whole. rw cast_null refl;
      acts = λ r. refl;
      stays = λ r. rowid_stays (rowid r);
    })
    (λ row. number_test row.number n) (set_duty_turns to)

-- ---- set_run

abbrev set_run_text : List ℕ
set_run_text = codes "UPDATE duty SET state = ?3 WHERE number >= ?1 AND number <= ?2"

set_run_reads : IsChange set_run_text 3 12 23 (within 0) (duty_project 2)
unfolding everything
set_run_reads = record {
  from = λ at not_null. (refl, refl, refl, refl, refl);
  is = λ place at not_null. record { is = refl; plain = (refl, refl); suits = (refl, refl) };
}

pub run_set : (first last : ℕ) (to : DutyState)
    → Makes set_run_text (number first ∷ number last ∷ Text (duty_state_name to) ∷ [])
    (λ t. record t { duty = changed (is_numbered first last) (with_duty_state to) t.duty })
run_set first last to =
    changes duty_view duties (is_numbered first last) (with_duty_state to)
    (λ t. record t { duty = changed (is_numbered first last) (with_duty_state to) t.duty })
    (λ t. refl) (λ t. search not_other) set_run_text
    (number first ∷ number last ∷ Text (duty_state_name to) ∷ []) (within 0) (duty_project 2)
    (λ cs. is_true (binary (Compare Ge Binary) (column cs 0) (Int (pos first)))
    && (is_true (binary (Compare Le Binary) (column cs 0) (Int (pos last))) && true))
    (set_duty_cells to) set_run_reads refl
    (record {
      agree = λ r. refl;
      form = λ r whole. rw cast_null refl;
      acts = λ r. refl;
      stays = λ r. rowid_stays (rowid r);
    })
    (λ row. run_test first last row.number) (set_duty_turns to)
