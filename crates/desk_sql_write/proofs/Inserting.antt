-- An INSERT fails only for a cause, if the tables can hold the rows after it.
use Rattle.std.proofs.Common.{◌≡◌, ◌≢◌, ◌∙◌, ℕ, ◌+◌, ◌^◌, ◌<◌, Bool, true, false, List, [], ◌∷◌}
use Rattle.std.proofs.Common.{◌++◌, length, slice_get, Option, Some, None, IfErr, Ok, Result, refl}
use Rattle.std.proofs.Common.{sym, ap, subst, arith, drop, map}
use Rattle.std.specs.Prelude.{◌==◌, ◌/◌}
use Rattle.std.specs.List.{AllByRecursion}
use Rattle.std.specs.List.Sorted.{IsPermutation}
use Rattle.std.proofs.lemmas.List.Sorted.{IsPermutation-append_comm}
use Rattle.std.proofs.lemmas.Bool.Decides.{nat_tests}
use Rattle.sqlite_value.specs.declared.keys.Order.{Order}
use Rattle.sqlite_value.specs.Order.{Row}
use Rattle.sqlite_trees.specs.Tree.{Trees, rowid}
use Rattle.sqlite_trees.proofs.ListLemmas.{all-permutation}
use Rattle.sqlite_sql.specs.Term.{Term}
use Rattle.sqlite_schema.specs.declared.schema.Column.{Column}
use Rattle.sqlite_schema.specs.declared.schema.Table.{Table}
use Rattle.sqlite_schema.specs.declared.command.Command.TheVariants.{Insert}
use Rattle.sqlite_schema.specs.declared.command.Source.TheVariants.{Values}
use Rattle.sqlite_schema.specs.Rules.{table_reals}
use Rattle.sqlite_typing.specs.Types.{accepts_terms}
use Rattle.sqlite_rules.specs.declared.error.Rowids.TheVariants.{Chosen}
use Rattle.sqlite_rules.specs.Cast.{cast_row}
use Rattle.sqlite_rules.specs.Edit.{next_rowid, numbered, put_all}
use Rattle.sqlite_rules.specs.Lists.{Has}
use Rattle.sqlite_rules.proofs.ListLemmas.{all_from, all_has, has_got}
use Rattle.sqlite_rules.proofs.RuleLemmas.{same_table}
use Rattle.sqlite.specs.Effect.{Database, value_rows}
use Rattle.sqlite.specs.Listing.{understood}
use Rattle.sqlite.specs.State.{State, Executes, Survives}
use Rattle.sqlite.proofs.Callers.{statement_of, runs_as}
use Rattle.desk_model.specs.declared.command.Fault.{Fault}
use Rattle.desk_sql_layout.specs.Held.{HasRows, labelled}
use Rattle.desk_sql_layout.specs.Desk.{HasDesk, columns_with, tree_in}
use Rattle.desk_sql_layout.proofs.Declared.{actual, alone_in, apart_in, cast_same, entry}
use Rattle.desk_sql_layout.proofs.Declared.{in_tables, tree_is}
use Rattle.desk_sql_layout.proofs.Writing.{IsWrite, plain_write, suits_write, writes_here}
use Rattle.desk_sql_layout.specs.Layout.{desk_schema, table_of}
use Rattle.desk_sql_layout.specs.Stored.{cells}
use Rattle.desk_sql_layout.proofs.Statements.{apart, all_inserted}
use Rattle.desk_sql_layout.proofs.Steps.{inserts}
use Rattle.desk_sql_layout.proofs.Writes.{Shows}
use Rattle.desk_sql_write.specs.Taking.{IsSmall, LeavesRoom, HasRoom, RanInto}
use Rattle.desk_sql_write.specs.Turning.{Adds, with_rows}
use Rattle.desk_sql_write.specs.Written.{Ran}
use Rattle.desk_sql_write.proofs.Behind.{with_here, with_elsewhere}
use Rattle.desk_sql_write.proofs.Failing.{caused, turns_by}
use Rattle.desk_sql_write.proofs.Puts.{AreShown, IsFirst, Make, Suits, rooms_put}
use Rattle.desk_sql_write.proofs.Refusing.{never_inserted, shown_now}
use Rattle.desk_sql_write.proofs.Rooms.{fewer_left, front_all}

-- what a step of one table leaves of the rowids of all tables
module _ (t : Table) (there : Has desk_schema.tables t) (old new : Database)
    (desk : HasDesk old.schema) (schema_is : new.schema ≡ old.schema)
    (tables : AllByRecursion (λ u. u.tree ≢ (entry old.schema desk t there).tree
    → new.trees u.tree ≡ old.trees u.tree) old.schema.tables) where
  abbrev real : ℕ
  real = (entry old.schema desk t there).tree

  kept : (u : Table) → Has desk_schema.tables u → u.tree ≢ t.tree
      → labelled new u.tree ≡ labelled old u.tree
  kept u here apart =
      let tree = tree_is old.schema desk u here in
      let other : (entry old.schema desk u here).tree ≢ real = λ e.
      apart (apart_in old.schema desk u t here there
      (tree ∙ e ∙ sym (tree_is old.schema desk t there))) in
      ap (λ s. new.trees (tree_in s u.tree)) schema_is ∙ ap new.trees tree
      ∙ all_has (λ (v : Table). v.tree ≢ real → new.trees v.tree ≡ old.trees v.tree)
      old.schema.tables (actual old.schema desk u here) tables (in_tables old.schema desk u here)
      other
      ∙ sym (ap old.trees tree)

  now_real : labelled new t.tree ≡ new.trees real
  now_real = ap (λ s. new.trees (tree_in s t.tree)) schema_is
      ∙ ap new.trees (tree_is old.schema desk t there)

  was_real : labelled old t.tree ≡ old.trees real
  was_real = ap old.trees (tree_is old.schema desk t there)

  pub rooms_after : (many n : ℕ) → HasRoom (n + many) (labelled old)
      → ((r : ℕ) → n + many < r → n < r)
      → ((rows : List Row) → AllByRecursion (λ r. LeavesRoom (n + many) (rowid r)) rows
      → AllByRecursion (λ r. LeavesRoom n (rowid r)) rows)
      → (t.key ≡ None → AllByRecursion (λ r. LeavesRoom (n + many) (rowid r)) (old.trees real)
      → AllByRecursion (λ r. LeavesRoom n (rowid r)) (new.trees real)) → HasRoom n (labelled new)
  rooms_after many n room lower fewer mine = record {
    few = lower (2 ^ 62) room.few;
    room = all_from (λ u. u.key ≡ None
        → AllByRecursion (λ r. LeavesRoom n (rowid r)) (labelled new u.tree)) desk_schema.tables
        (λ u here none. go u here none (u.tree == t.tree) refl);
  }
    where
      before : (u : Table) → Has desk_schema.tables u → u.key ≡ None
          → AllByRecursion (λ r. LeavesRoom (n + many) (rowid r)) (labelled old u.tree)
      before u here none = all_has (λ u. u.key ≡ None
          → AllByRecursion (λ r. LeavesRoom (n + many) (rowid r)) (labelled old u.tree))
          desk_schema.tables u room.room here none

      go : (u : Table) → Has desk_schema.tables u → u.key ≡ None → (b : Bool)
          → (u.tree == t.tree) ≡ b → AllByRecursion (λ r. LeavesRoom n (rowid r))
          (labelled new u.tree)
      go u here none true same =
          let one : u ≡ t = same_table desk_schema.tables u t apart here there
          (grind (arith, nat_tests)) in
          subst (λ (v : Table). AllByRecursion (λ r. LeavesRoom n (rowid r)) (labelled new v.tree))
          (sym one)
          (subst (AllByRecursion (λ r. LeavesRoom n (rowid r))) (sym now_real)
          (mine (subst (λ (v : Table). v.key ≡ None) one none)
          (subst (AllByRecursion (λ r. LeavesRoom (n + many) (rowid r))) was_real
          (subst (λ (v : Table). AllByRecursion (λ r. LeavesRoom (n + many) (rowid r))
          (labelled old v.tree)) one (before u here none)))))
      go u here none false other =
          let apart_from : u.tree ≢ t.tree = λ e. grind (arith, nat_tests) in
          subst (AllByRecursion (λ r. LeavesRoom n (rowid r))) (sym (kept u here apart_from))
          (fewer (labelled old u.tree) (before u here none))

  -- a step that adds no row
  pub rooms_left : (n : ℕ) → HasRoom (n + 0) (labelled old)
      → (t.key ≡ None → AllByRecursion (λ r. LeavesRoom n (rowid r)) (old.trees real)
      → AllByRecursion (λ r. LeavesRoom n (rowid r)) (new.trees real)) → HasRoom n (labelled new)
  rooms_left n room mine = rooms_after 0 n room (λ r low. omega (arith, low)) (fewer_left n 0)
      (λ none before. mine none (fewer_left n 0 (old.trees real) before))

module _ (name : List ℕ) (tree : ℕ) (columns : List Column) (key : Option ℕ) (primary : List ℕ)
    (uniques : List (List ℕ)) (orders : List Order) where
  abbrev this : Table
  this = table_of name tree columns key primary uniques orders

  -- a source shows the cells for which it was made
  shows : (sources wanted : List Row)
      → Make name tree columns key primary uniques orders sources wanted
      → AreShown name tree columns key primary uniques orders wanted
      → Shows name tree columns key primary uniques orders sources wanted
  shows [] [] make shown = tt
  shows [] (w ∷ wanted) make shown = absurd make
  shows (s ∷ sources) [] make shown = absurd make
  shows (s ∷ sources) (w ∷ wanted) make shown = (
    (λ stored. ap (cells this) (make.0 stored)
        ∙ shown.0 (next_rowid stored)),
    shows sources wanted make.1 shown.1,
  )

  module _ (place : ℕ) (listed : slice_get desk_schema.tables place ≡ Some this) (sql : List ℕ)
      (params : Row) (terms : List Term) (width : ℕ)
      (reads : IsWrite sql (length params) tree (λ place at. Insert place (Values terms width)))
      (accepts : accepts_terms terms params ≡ true) (sources wanted : List Row)
      (source : value_rows params width (length terms / width) terms ≡ sources)
      (reals : table_reals this ≡ 0)
      (first : IsFirst name tree columns key primary uniques orders key)
      (make : Make name tree columns key primary uniques orders sources wanted)
      (shown : AreShown name tree columns key primary uniques orders wanted)
      (suits : (trees : Trees) → AllByRecursion (AllByRecursion IsSmall) wanted
      → AllByRecursion (Suits name tree columns key primary uniques orders trees) wanted)
      (old new : State) where
    there : Has desk_schema.tables this
    there = has_got desk_schema.tables place this listed

    same : (rows : ℕ → List Row) → AllByRecursion
        (λ t. t.tree ≢ tree → with_rows tree wanted rows t.tree ≡ rows t.tree) desk_schema.tables
    same rows = all_from (λ t. t.tree ≢ tree → with_rows tree wanted rows t.tree ≡ rows t.tree)
        desk_schema.tables (λ t listed other. with_elsewhere tree wanted rows t.tree other)

    perm : (rows : ℕ → List Row) → IsPermutation (with_rows tree wanted rows tree)
        (wanted ++ rows tree)
    perm rows = subst (λ l. IsPermutation l (wanted ++ rows tree))
        (sym (with_here tree wanted rows)) (IsPermutation-append_comm (rows tree) wanted)

    uses : (count : ℕ) (rows : ℕ → List Row) → Executes sql params old new (Ok count)
        → HasRows rows old.now → (n : ℕ) → HasRoom (n + length wanted) (labelled old.now)
        → HasRoom n (labelled new.now)
    uses count rows executed has n room =
        let schema = old.now.schema in
        let own = entry schema has.declared this there in
        let w = runs_as sql params old new schema refl (Insert own.place (Values terms width))
        (writes_here reads this there refl schema has.declared)
        (plain_write reads this there refl schema has.declared) count executed in
        let step = inserts name own.tree (columns_with key own.not_null 0 columns) key primary
        uniques orders schema own.place own.listed (alone_in schema has.declared) old refl params
        (statement_of sql (understood schema sql)) new.now w.tally terms width sources source
        w.changed in
        let mine = shown_now name tree columns key primary uniques orders there rows rows old has in
        let cast : map (λ s. cast_row (actual schema has.declared this there) (drop 0 s)) sources
        ≡ map (λ s. cast_row this (drop 0 s)) sources =
        λ i. map (λ s. cast_same this own.tree own.not_null (drop 0 s) i) sources in
        let rows_now : new.now.trees own.tree
        ≡ put_all (old.now.trees own.tree) (numbered Chosen (old.now.trees own.tree)
        (map (λ s. cast_row this (drop 0 s)) sources)) = step.applies.rows
        ∙ ap (λ l. put_all (old.now.trees own.tree) (numbered Chosen (old.now.trees own.tree) l))
        cast in
        rooms_after this there old.now new.now has.declared step.schema_is step.applies.tables
        (length wanted) n room (λ r low. omega (arith, low)) (fewer_left n (length wanted))
        (λ none before. subst (AllByRecursion (λ r. LeavesRoom n (rowid r))) (sym rows_now)
        (rooms_put name tree columns key primary uniques orders n none sources wanted
        (old.now.trees own.tree) make mine.keyed (omega (arith, room.few)) before))

    pub inserted_adds : (r : Result (Unit {0}) Fault) → Ran sql params old new r
        → IfErr r (RanInto sql params old new) → Survives old new (λ _. ⊥)
        → Adds (with_rows tree wanted) (length wanted) old new r
    inserted_adds = turns_by (λ rows. rows) (with_rows tree wanted) (length wanted) sql params old
        new
        (λ count rows executed has.
        all_inserted name tree columns key primary uniques orders place listed sql
        params rows (with_rows tree wanted rows) (same rows) old new count executed has terms width
        sources wanted reads source
        (shows sources wanted make shown) (perm rows))
        uses
        (λ opened unlimited rows has before after room.
        let schema = old.now.schema in
        let small = front_all (AllByRecursion IsSmall) wanted (rows tree)
        (all-permutation (AllByRecursion IsSmall) _ _ (perm rows)
        (all_has (λ t. AllByRecursion (AllByRecursion IsSmall) (with_rows tree wanted rows t.tree))
        desk_schema.tables this after.small there)) in
        caused schema sql params old new refl opened
        (plain_write reads this there refl schema has.declared)
        (suits_write reads this there refl schema has.declared)
        (Insert (entry schema has.declared this there).place (Values terms width))
        (writes_here reads this there refl schema has.declared) refl
        (never_inserted name tree columns key primary uniques orders there rows
        (with_rows tree wanted rows) old has unlimited params
        (statement_of sql (understood schema sql)) terms width accepts sources wanted source
        reals first make shown
        (suits old.now.trees small) (perm rows) after.keys room))
