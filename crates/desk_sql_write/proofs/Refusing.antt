-- A statement is refused only for its rows, and an INSERT for none that the tables can hold.
use Rattle.std.proofs.Common.{◌≡◌, ◌∙◌, inl, inr, ℕ, ℤ, zero, suc, Bool, true, false, not}
use Rattle.std.proofs.Common.{List, [], ◌∷◌, ◌++◌, length, Option, Some, None}
use Rattle.std.proofs.Common.{Err, refl, sym, ap, ap₂, subst, arith, append-nil, length-append}
use Rattle.std.proofs.Common.{drop, map}
use Rattle.std.specs.Prelude.{nat_lt, ◌&&◌, ◌||◌, ◌==◌, ◌/◌, ◌+◌, ◌*◌, if◌then◌else◌}
use Rattle.std.specs.List.{AllByRecursion, list_all}
use Rattle.std.specs.List.Sorted.{IsPermutation}
use Rattle.sqlite_value.specs.declared.keys.Order.{Order}
use Rattle.sqlite_value.specs.Order.{Row, column}
use Rattle.sqlite_trees.specs.Tree.{Trees, rowid}
use Rattle.sqlite_sql.specs.Ops.{fits_i64}
use Rattle.sqlite_sql.specs.Term.{Term}
use Rattle.sqlite_schema.specs.declared.schema.Among.{Among}
use Rattle.sqlite_schema.specs.declared.schema.Column.{Column}
use Rattle.sqlite_schema.specs.declared.schema.Constraint.TheVariants.{Datatype, NotNull, Check}
use Rattle.sqlite_schema.specs.declared.schema.Constraint.TheVariants.{PrimaryKey, Unique}
use Rattle.sqlite_schema.specs.declared.schema.Constraint.TheVariants.{ForeignKey}
use Rattle.sqlite_schema.specs.declared.schema.Keys.TheVariants.{Enforced}
use Rattle.sqlite_schema.specs.declared.schema.Table.{Table}
use Rattle.sqlite_schema.specs.declared.command.Command.TheVariants.{Insert}
use Rattle.sqlite_schema.specs.declared.command.Source.TheVariants.{Values}
use Rattle.sqlite_schema.specs.declared.schema.Schema.{Schema}
use Rattle.sqlite_schema.specs.Names.{is_key}
use Rattle.sqlite_schema.specs.Rules.{Keeps, Refers, are_present, are_typed, has_parent, is_among}
use Rattle.sqlite_schema.specs.Rules.{is_key_if_to}
use Rattle.sqlite_sql.specs.Ops.{is_null}
use Rattle.sqlite_schema.specs.Rules.{kind_code, passes, real_bits, references_fit, suits}
use Rattle.sqlite_schema.specs.Rules.{table_reals}
use Rattle.sqlite_typing.specs.Types.{accepts_terms}
use Rattle.sqlite_rules.specs.declared.error.Refusal.{Refusal}
use Rattle.sqlite_rules.specs.declared.error.Refusal.TheVariants.{Violates, Mismatch, NoRowid}
use Rattle.sqlite_rules.specs.declared.error.Refusal.TheVariants.{BadReference, TooDeep}
use Rattle.sqlite_rules.specs.declared.error.Rowids.{Rowids}
use Rattle.sqlite_rules.specs.declared.error.Rowids.TheVariants.{Chosen}
use Rattle.sqlite_rules.specs.Action.{Writes, works, work_for}
use Rattle.sqlite_rules.specs.Edit.{Edit, id_in, edit_of, edited, taken_by, IsRefused, IsOversized}
use Rattle.sqlite_rules.specs.Cast.{cast_row}
use Rattle.sqlite_rules.specs.Edit.{are_fresh, have_rowids, numbered, put_all, without_all}
use Rattle.sqlite_rules.specs.Lists.{Has}
use Rattle.sqlite_rules.proofs.ListLemmas.{all_from, all_has, test_from}
use Rattle.sqlite.specs.declared.run.Mode.{Mode}
use Rattle.sqlite.specs.declared.error.Error.{Error}
use Rattle.sqlite.specs.Effect.{Database, value_rows}
use Rattle.sqlite.specs.Rows.{Part, Then, Edited, Sourced, Inserts, Written, Task}
use Rattle.sqlite.specs.Does.{Does, Concludes, due}
use Rattle.sqlite.specs.State.{State, mode_of}
use Rattle.desk_sql_layout.specs.Layout.{desk_schema, table_of}
use Rattle.desk_sql_layout.specs.Desk.{HasDesk, HasTable, columns_with}
use Rattle.desk_sql_layout.specs.Stored.{AreStored}
use Rattle.desk_sql_layout.proofs.Declared.{actual, alone_in, cast_same, entry, tree_is}
use Rattle.desk_base.proofs.Bools.{contrary}
use Rattle.desk_sql_layout.specs.Held.{HasRows, labelled}
use Rattle.desk_sql_layout.proofs.Steps.{no_actions}
use Rattle.desk_sql_layout.proofs.Writes.{stored_as}
use Rattle.desk_sql_write.specs.Taking.{HaveKeys, StandsOnce, HasRoom, LeavesRoom}
use Rattle.desk_sql_write.proofs.Keyed.{narrow, unique_kept}
use Rattle.desk_sql_write.proofs.Puts.{AreShown, IsRight, IsFirst, Make, Suits, puts, once_permuted}
use Rattle.desk_sql_write.proofs.Storable.{never_oversized}

-- ---- foreign keys, of which there are none

module _ (schema : Schema) (desk : HasDesk schema) where
  none_in : (t : Table) → Has schema.tables t → t.references ≡ []
  none_in t there = all_has (λ (t : Table). t.references ≡ []) schema.tables t
      (alone_in schema desk) there

  refers : (among : Among) (trees : Trees) → Refers among schema trees
  refers among trees = all_from
      (λ t. AllByRecursion (λ row. list_all
      (λ ref. not (is_among among ref) || has_parent schema.tables trees row ref) t.references
      ≡ true) (trees t.tree)) schema.tables
      (λ t there. all_from (λ row. list_all
      (λ ref. not (is_among among ref) || has_parent schema.tables trees row ref) t.references
      ≡ true) (trees t.tree) (λ row has. rw (none_in t there) refl))

  none_refers : (table : Table) → list_all (λ t. list_all (is_key_if_to schema table) t.references)
      schema.tables ≡ true
  none_refers table = test_from (λ t. list_all (is_key_if_to schema table) t.references)
      schema.tables (λ t there. rw (none_in t there) refl)

  pub fits_none : (table : Table) → table.references ≡ [] → (adds removes : Bool)
      → references_fit schema table adds removes ≡ true
  fits_none table none true true = rw (none, none_refers table) refl
  fits_none table none true false = rw none refl
  fits_none table none false true = rw (none_refers table) refl
  fits_none table none false false = refl

  -- ---- an edit that nothing refuses

  pub record IsFree (trees : Trees) (edit : Edit) : Type 0 where
    pub allowed : (why : Refusal) → IsRefused schema Enforced trees edit why → ⊥
    pub stored : (row : Row) → Has edit.news row → IsOversized schema edit.table row → ⊥

  pub never_stops : (trees : Trees) (edit : Edit) (stop : Option Error) → IsFree trees edit
      → Edited schema Enforced trees edit (Err stop) → ⊥
  never_stops trees edit stop free (why, inl refused, told) = free.allowed refused.0 refused.1
  never_stops trees edit stop free (why, inr (inl big), told) = free.stored big.0 big.1 big.2
  never_stops trees edit stop free (why, inr (inr went), told) = settles went.2.0
      (rw (no_actions schema Enforced 0 edit.table.tree (taken_by trees edit) edit.news
      (alone_in schema desk)) at went.2.1)
    where
      settles : (n : ℕ) → Rattle.sqlite_rules.specs.Action.Leads schema Enforced n went.0 []
          (Err why) → ⊥
      settles zero h = let e = h.1 in cc
      settles (suc n) h = omega (arith, ap length h.2, length-append h.0 (h.1 ∷ []))

  -- what follows the rows of a statement with no RETURNING
  never_concludes : (task : Task) (mode : Mode) (w : Written) (stop : Option Error)
      → task.schema ≡ schema → Concludes task mode None w (Err stop) → ⊥
  never_concludes task mode w stop is (inl (s, tested, told)) = tested.0
      (subst (λ s. Refers (due mode) s w.trees) (sym is) (refers (due mode) w.trees))
  never_concludes task mode w stop is (inr (d, tested, inl (s, e, told))) = absurd (let no = e in
      cc)
  never_concludes task mode w stop is (inr (d, tested, inr (shown, e, gives))) = absurd (let no =
      gives in cc)

  -- nor does the statement, if its writing does not
  pub never_ends : (task : Task) (mode : Mode) (writing : Part Written) → task.schema ≡ schema
      → ((stop : Option Error) → writing (Err stop) → ⊥) → (stop : Option Error)
      → Then writing (Concludes task mode None) (Err stop) → ⊥
  never_ends task mode writing is never stop (inl (st, written, told)) = never st written
  never_ends task mode writing is never stop (inr (w, written, concludes)) =
      never_concludes task mode w stop is concludes

-- a statement on a table
abbrev pub doing : Schema → Table → State → Row → Task
doing schema table s params = record {
  limit = s.step_limit;
  keys = Enforced;
  schema = schema;
  table = table;
  params = params;
}

-- ---- INSERT

no_source : (limit : Option ℕ) (db : Database) (params : Row) (terms : List Term) (width : ℕ)
    (stop : Option Error) → limit ≡ None → accepts_terms terms params ≡ true
    → Sourced limit db params (Values terms width) (Err stop) → ⊥
no_source limit db params terms width None none accepts refused = refused
no_source limit db params terms width (Some e) none accepts (inl typed) = absurd (let no =
    rw accepts at typed.1 in cc)
no_source limit db params terms width (Some e) none accepts (inr limited) = absurd (let no =
    rw none at limited.1 in cc)

-- ---- NOT NULL on the rowid refuses nothing

typed_from : (key : Option ℕ) (not_null : Bool) (at : ℕ) (cs : List Column) (vs : Row)
    → are_typed key at (columns_with key not_null at cs) vs ≡ are_typed key at cs vs
typed_from key not_null at [] [] = refl
typed_from key not_null at [] (v ∷ vs) = refl
typed_from key not_null at (c ∷ cs) [] =
    ap₂ (λ a b. a && b) (one (is_key key at)) (typed_from key not_null (at + 1) cs [])
  where
    one : (b : Bool) → is_null (if b then record c { not_null = not_null } else c).default
        ≡ is_null c.default
    one true = refl
    one false = refl
typed_from key not_null at (c ∷ cs) (v ∷ vs) =
    ap₂ (λ a b. a && b) (one (is_key key at)) (typed_from key not_null (at + 1) cs vs)
  where
    one : (b : Bool)
        → (if b then is_null v else suits (if b then record c { not_null = not_null } else c) v)
        ≡ (if b then is_null v else suits c v)
    one true = refl
    one false = refl

present_from : (key : Option ℕ) (not_null : Bool) (at : ℕ) (cs : List Column) (row : Row)
    → are_present key at (columns_with key not_null at cs) row ≡ are_present key at cs row
present_from key not_null at [] row = refl
present_from key not_null at (c ∷ cs) row =
    ap₂ (λ a b. a && b) (one (is_key key at)) (present_from key not_null (at + 1) cs row)
  where
    one : (b : Bool)
        → (b || not (if b then record c { not_null = not_null } else c).not_null
        || not (is_null (column row (at + 1))))
        ≡ (b || not c.not_null || not (is_null (column row (at + 1))))
    one true = refl
    one false = refl

reals_from : (key : Option ℕ) (not_null : Bool) (at : ℕ) (cs : List Column)
    → real_bits (columns_with key not_null at cs) ≡ real_bits cs
reals_from key not_null at [] = refl
reals_from key not_null at (c ∷ cs) =
    ap₂ (λ a b. a + 2 * b) (one (is_key key at)) (reals_from key not_null (at + 1) cs)
  where
    one : (b : Bool) → ◌≡◌ {A = ℕ}
        (if kind_code (if b then record c { not_null = not_null } else c).kind == 2 then 1 else 0)
        (if kind_code c.kind == 2 then 1 else 0)
    one true = refl
    one false = refl

-- ---- an edit of a table of the desk, as the schema has it

module _ (name : List ℕ) (tree : ℕ) (columns : List Column) (key : Option ℕ) (primary : List ℕ)
    (uniques : List (List ℕ)) (orders : List Order) (schema : Schema) (desk : HasDesk schema)
    (listed : Has desk_schema.tables (table_of name tree columns key primary uniques orders)) where
  abbrev this : Table
  this = table_of name tree columns key primary uniques orders

  abbrev own : HasTable schema this
  own = entry schema desk this listed

  abbrev pub found : Table
  found = actual schema desk this listed

  pub reals_found : table_reals this ≡ 0 → table_reals found ≡ 0
  reals_found none = ap (λ n. 2 * n) (reals_from key own.not_null 0 columns) ∙ none

  -- its rows are those that the table can hold
  pub rows_free : (rows : List Row) (trees : Trees) (gone : List ℤ) (rowids : Rowids)
      (from : ℕ) (sources : List Row) → let edit = edit_of trees found gone rowids from sources in
      Keeps Unique schema trees → table_reals this ≡ 0
      → AllByRecursion (IsRight name tree columns key primary uniques orders trees) edit.news
      → have_rowids edit.news ≡ true
      → list_all (λ r. fits_i64 (id_in (rowid r))) edit.news ≡ true
      → are_fresh (without_all (trees own.tree) gone) edit.news ≡ true
      → AreStored this rows (edited trees edit)
      → AllByRecursion (StandsOnce rows) (primary ∷ uniques) → IsFree schema desk trees edit
  rows_free rows trees gone rowids from sources was none right keyed fits fresh stored keys = record {
    allowed = allowed;
    stored = λ row has. let it = all_has Right news row right has in
        never_oversized schema found row (narrow schema desk this listed) (reals_found none)
        it.light it.some it.few;
  }
    where
      Right : Row → Type 0
      Right = IsRight name tree columns key primary uniques orders trees

      edit : Edit
      edit = edit_of trees found gone rowids from sources

      news : List Row
      news = edit.news

      passing : (c : Row → Bool) → ((r : Row) → Right r → c r ≡ true)
          → list_all c news ≡ false → ⊥
      passing c holds = contrary (list_all c news)
          (test_from c news (λ r h. holds r (all_has Right news r right h)))

      allowed : (why : Refusal) → IsRefused schema Enforced trees edit why → ⊥
      allowed (Violates Datatype) refused =
          passing (passes Datatype schema trees found) (λ r it.
          ap (λ b. b && true) (typed_from key own.not_null 0 columns (drop 1 r)) ∙ it.typed) refused
      allowed (Violates NotNull) refused =
          passing (passes NotNull schema trees found) (λ r it.
          present_from key own.not_null 0 columns r ∙ it.present) refused
      allowed (Violates Check) refused =
          passing (passes Check schema trees found) (λ r it. refl) refused
      allowed (Violates PrimaryKey) refused = absurd (let no = sym refused ∙ fresh in cc)
      allowed (Violates Unique) refused = refused
          (unique_kept schema desk this listed rows (edited trees edit) stored keys trees was)
      allowed (Violates ForeignKey) refused = refused
      allowed Mismatch refused = absurd (let no = sym refused ∙ keyed in cc)
      allowed NoRowid refused = absurd (let no = sym refused ∙ fits in cc)
      allowed BadReference refused = absurd (let no = sym refused
          ∙ fits_none schema desk found refl (nat_lt 0 (length news)) (nat_lt 0 (length gone)) in
          cc)
      allowed TooDeep refused = refused

  module _ (s : State) (has : s.now.schema ≡ schema) (none : s.step_limit ≡ None) (params : Row)
      (text : List ℕ) (terms : List Term) (width : ℕ)
      (accepts : accepts_terms terms params ≡ true)
      (free : IsFree schema desk s.now.trees (edit_of s.now.trees found [] Chosen 0
      (value_rows params width (length terms / width) terms))) where
    never_inserts : (stop : Option Error)
        → Inserts (doing schema found s params) (Values terms width) s.now.trees (Err stop) → ⊥
    never_inserts stop (inl (e, sourced, told)) = no_source s.step_limit
        (record { schema = schema; trees = s.now.trees }) (params ++ []) terms width e none
        (rw append-nil accepts) sourced
    never_inserts stop (inr (rows, sourced, inl (e, count, told))) = absurd (let no = count in cc)
    never_inserts stop (inr (rows, sourced, inr (counter, c, inl (e, stopped, told)))) =
        let given : value_rows params width (length terms / width) terms ≡ rows =
        sym (sourced.1 ∙ rw append-nil refl) in
        never_stops schema desk s.now.trees (edit_of s.now.trees found [] Chosen 0 rows) e
        (subst (λ rows. IsFree schema desk s.now.trees (edit_of s.now.trees found [] Chosen 0 rows))
        given free) stopped
    never_inserts stop (inr (
      rows,
      sourced,
      inr (counter, c, inr (mid, e, inl (st, counts, told))),
    )) = absurd (let no = counts in cc)
    never_inserts stop (inr (
      rows,
      sourced,
      inr (counter, c, inr (mid, e, inr (next, counts, gives))),
    )) = absurd (let no = gives in cc)

    never_refused : (stop : Option Error)
        → Does s.step_limit (mode_of s) params s.now text None
        (Insert own.place (Values terms width)) (Err stop) → ⊥
    never_refused stop did =
        never_ends schema desk (doing schema found s params) (mode_of s)
        (Inserts (doing schema found s params) (Values terms width) s.now.trees) refl never_inserts
        stop (rw (has, own.listed) at did)

-- ---- an INSERT of rows that the tables can hold

module _ (name : List ℕ) (tree : ℕ) (columns : List Column) (key : Option ℕ) (primary : List ℕ)
    (uniques : List (List ℕ)) (orders : List Order)
    (there : Has desk_schema.tables (table_of name tree columns key primary uniques orders))
    (rows after : ℕ → List Row) (s : State) (has : HasRows rows s.now) where
  abbrev labelled_table : Table
  labelled_table = table_of name tree columns key primary uniques orders

  abbrev entry_now : HasTable s.now.schema labelled_table
  entry_now = entry s.now.schema has.declared labelled_table there

  -- the rows that the table has, as the schema has it
  pub rows_are : labelled s.now tree ≡ s.now.trees entry_now.tree
  rows_are = ap s.now.trees (tree_is s.now.schema has.declared labelled_table there)

  pub shown_now : AreStored labelled_table (rows tree) (s.now.trees entry_now.tree)
  shown_now = subst (AreStored labelled_table (rows tree)) rows_are
      (all_has (λ t. AreStored t (rows t.tree) (labelled s.now t.tree)) desk_schema.tables
      labelled_table
      has.stored there)

  pub keys_of : HaveKeys after → AllByRecursion (StandsOnce (after tree)) (primary ∷ uniques)
  keys_of keys = all_has (λ t. AllByRecursion (StandsOnce (after t.tree)) (t.primary ∷ t.uniques))
      desk_schema.tables labelled_table keys there

  pub room_of : (n : ℕ) → HasRoom n (labelled s.now) → key ≡ None
      → AllByRecursion (λ r. LeavesRoom n (rowid r)) (s.now.trees entry_now.tree)
  room_of n room none = subst (AllByRecursion (λ r. LeavesRoom n (rowid r))) rows_are
      (all_has (λ t. t.key ≡ None → AllByRecursion (λ r. LeavesRoom n (rowid r))
      (labelled s.now t.tree)) desk_schema.tables labelled_table room.room there none)

  module _ (none : s.step_limit ≡ None) (params : Row)
      (text : List ℕ) (terms : List Term) (width : ℕ) (accepts : accepts_terms terms params ≡ true)
      (sources wanted : List Row) (source : value_rows params width (length terms / width) terms
      ≡ sources) (reals : table_reals labelled_table ≡ 0)
      (first : IsFirst name tree columns key primary uniques orders key)
      (make : Make name tree columns key primary uniques orders sources wanted)
      (shows : AreShown name tree columns key primary uniques orders wanted)
      (suits : AllByRecursion (Suits name tree columns key primary uniques orders s.now.trees)
      wanted)
      (perm : IsPermutation (after tree) (wanted ++ rows tree)) (keys : HaveKeys after)
      (room : HasRoom (length wanted) (labelled s.now)) where
    pub never_inserted : (stop : Option Error)
        → Does s.step_limit (mode_of s) params s.now text None
        (Insert entry_now.place (Values terms width)) (Err stop) → ⊥
    never_inserted =
        let trees = s.now.trees in
        let once = keys_of keys in
        let put = puts name tree columns key primary uniques orders trees first sources wanted
        (rows tree) (trees entry_now.tree) shown_now make shows suits
        (once_permuted (after tree) (wanted ++ rows tree) primary perm once.0)
        (omega (arith, room.few)) (room_of (length wanted) room) in
        let cast : map (λ x. cast_row (actual s.now.schema has.declared labelled_table there)
        (drop 0 x))
        sources ≡ map (λ x. cast_row labelled_table (drop 0 x)) sources =
        λ i. map (λ x. cast_same labelled_table entry_now.tree entry_now.not_null (drop 0 x) i)
        sources in
        let back = λ (P : List Row → Type 0) (h : P (numbered Chosen (trees entry_now.tree)
        (map (λ x. cast_row labelled_table (drop 0 x)) sources))).
        subst (λ l. P (numbered Chosen (trees entry_now.tree) l)) (sym cast) h in
        let free = rows_free name tree columns key primary uniques orders s.now.schema has.declared
        there (after tree) trees [] Chosen 0 sources (has.sound.obeys.rules Unique) reals
        (back (λ l. AllByRecursion
        (IsRight name tree columns key primary uniques orders trees) l) put.right)
        (back (λ l. have_rowids l ≡ true) put.keyed)
        (back (λ l. list_all (λ r. fits_i64 (id_in (rowid r))) l ≡ true) put.fits)
        (back (λ l. are_fresh (trees entry_now.tree) l ≡ true) put.fresh)
        (stored_as labelled_table (wanted ++ rows tree) (after tree) _ perm
        (back (λ l. AreStored labelled_table (wanted ++ rows tree)
        (put_all (trees entry_now.tree) l)) put.are))
        once in
        never_refused name tree columns key primary uniques orders s.now.schema has.declared there
        s refl none params text terms width accepts
        (subst (λ rows. IsFree s.now.schema has.declared trees
        (edit_of trees (actual s.now.schema has.declared labelled_table there) [] Chosen 0 rows))
        (sym source)
        free)
