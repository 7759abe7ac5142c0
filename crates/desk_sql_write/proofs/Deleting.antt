-- A DELETE fails only for a cause, if the tables can hold the rows that it leaves.
use Rattle.std.proofs.Common.{◌≡◌, ◌≢◌, ◌∙◌, inl, inr, ℕ, ◌+◌, Bool, true, false, not, List, []}
use Rattle.std.proofs.Common.{◌∷◌, filter, length, slice_get, Option, Some, None, IfErr, Ok}
use Rattle.std.proofs.Common.{Err, Result, refl, sym, subst}
use Rattle.std.specs.Prelude.{nat_lt}
use Rattle.std.specs.List.{AllByRecursion}
use Rattle.std.specs.List.Sorted.{IsPermutation}
use Rattle.sqlite_value.specs.declared.keys.Order.{Order}
use Rattle.sqlite_value.specs.Order.{Row}
use Rattle.sqlite_trees.specs.Tree.{rowid}
use Rattle.sqlite_trees.proofs.ListLemmas.{all-filter}
use Rattle.sqlite_sql.specs.Term.{Term, col}
use Rattle.sqlite_schema.specs.declared.schema.Column.{Column}
use Rattle.sqlite_schema.specs.declared.schema.Constraint.TheVariants.{Datatype, NotNull, Check}
use Rattle.sqlite_schema.specs.declared.schema.Constraint.TheVariants.{PrimaryKey, Unique}
use Rattle.sqlite_schema.specs.declared.schema.Constraint.TheVariants.{ForeignKey}
use Rattle.sqlite_schema.specs.declared.schema.Keys.TheVariants.{Enforced}
use Rattle.sqlite_schema.specs.declared.schema.Table.{Table}
use Rattle.sqlite_schema.specs.declared.program.Program.{Program}
use Rattle.sqlite_schema.specs.declared.command.Command.TheVariants.{Delete}
use Rattle.sqlite_typing.specs.Types.{accepts_program}
use Rattle.sqlite_rules.specs.declared.error.Refusal.{Refusal}
use Rattle.sqlite_rules.specs.declared.error.Refusal.TheVariants.{Violates, Mismatch, NoRowid}
use Rattle.sqlite_rules.specs.declared.error.Refusal.TheVariants.{BadReference, TooDeep}
use Rattle.sqlite_rules.specs.declared.error.Rowids.TheVariants.{Given}
use Rattle.sqlite_rules.specs.Calls.{ids_of}
use Rattle.sqlite_rules.specs.Edit.{Edit, edit_of, taken_by, without_all, IsRefused}
use Rattle.sqlite_rules.specs.Lists.{Has}
use Rattle.sqlite_rules.proofs.ListLemmas.{has_got}
use Rattle.sqlite_schema.specs.declared.schema.Schema.{Schema}
use Rattle.sqlite.specs.declared.error.Error.{Error}
use Rattle.sqlite.specs.Effect.{Answers}
use Rattle.sqlite.specs.Listing.{understood}
use Rattle.sqlite.specs.Rows.{Then}
use Rattle.sqlite.specs.Does.{Does, Concludes}
use Rattle.sqlite.specs.State.{State, Executes, Survives, mode_of}
use Rattle.sqlite.proofs.Callers.{statement_of, runs_as}
use Rattle.desk_model.specs.declared.command.Fault.{Fault}
use Rattle.desk_sql_layout.specs.Held.{HasRows, labelled}
use Rattle.desk_sql_layout.specs.Desk.{HasDesk, HasTable, columns_with}
use Rattle.desk_sql_layout.proofs.Declared.{actual, alone_in, entry}
use Rattle.desk_sql_layout.proofs.Selecting.{accepts_here}
use Rattle.desk_sql_layout.proofs.Writing.{IsWrite, plain_write, suits_write, writes_here}
use Rattle.desk_sql_layout.specs.Layout.{desk_schema, table_of}
use Rattle.desk_sql_layout.specs.Stored.{cells, AreStored}
use Rattle.desk_sql_layout.proofs.Causes.{never_refused}
use Rattle.desk_sql_layout.proofs.Keeps.{stored_less}
use Rattle.desk_sql_layout.proofs.Queries.{query_on, passes}
use Rattle.desk_sql_layout.proofs.Statements.{deleted}
use Rattle.desk_sql_layout.proofs.Steps.{Editing, at, deletes}
use Rattle.desk_sql_layout.proofs.Writes.{left_by, stored_as}
use Rattle.desk_sql_write.specs.Taking.{HaveKeys, LeavesRoom, HasRoom, RanInto}
use Rattle.desk_sql_write.specs.Turning.{Turns}
use Rattle.desk_sql_write.specs.Written.{Ran}
use Rattle.desk_sql_write.proofs.Failing.{caused, turns_by}
use Rattle.desk_sql_write.proofs.Inserting.{rooms_left}
use Rattle.desk_sql_write.proofs.Keyed.{unique_kept}
use Rattle.desk_sql_write.proofs.Refusing.{IsFree, doing, fits_none, keys_of, never_ends}
use Rattle.desk_sql_write.proofs.Refusing.{never_stops, shown_now}

-- a statement is not stopped if the rows that its query shows make an edit that nothing refuses
pub never_edited : (schema : Schema) (desk : HasDesk schema) (this : Table) (s : State)
    (params : Row) (tree : ℕ) (tests project : List Term) (edit : List Row → Edit)
    (out : List Row → List Row)
    → let q : Program = record { lets = []; body = query_on tree tests project [] } in
    s.step_limit ≡ None
    → accepts_program schema [] (query_on tree tests project []) params ≡ true
    → ((found : List Row) → Answers (at schema s.now.trees) q params found
    → IsFree schema desk s.now.trees (edit found))
    → (stop : Option Error) → Then (Editing schema s params q edit out)
    (Concludes (doing schema this s params) (mode_of s) None) (Err stop) → ⊥
never_edited schema desk this s params tree tests project edit out none accepts free =
    never_ends schema desk (doing schema this s params) (mode_of s)
    (Editing schema s params (record { lets = []; body = query_on tree tests project [] }) edit
    out) refl edits
  where
    edits : (st : Option Error) → Editing schema s params
        (record { lets = []; body = query_on tree tests project [] }) edit out (Err st) → ⊥
    edits st (inl (None, queried, told)) = queried
    edits st (inl (Some e, queried, told)) = never_refused schema s.step_limit tree tests project
        [] params none accepts (at schema s.now.trees) e refl queried
    edits st (inr (found, answers, inl (e, stopped, told))) = never_stops schema desk s.now.trees
        (edit found) e (free found answers) stopped
    edits st (inr (found, answers, inr (next, edited, gives))) = absurd (let no = gives in cc)

module _ (name : List ℕ) (tree : ℕ) (columns : List Column) (key : Option ℕ) (primary : List ℕ)
    (uniques : List (List ℕ)) (orders : List Order) where
  abbrev this : Table
  this = table_of name tree columns key primary uniques orders

  module _ (there : Has desk_schema.tables this) (rows after : ℕ → List Row)
      (s : State) (has : HasRows rows s.now) (params : Row) (tests : List Term) (q : Row → Bool)
      (agree : (r : Row) → passes tests params r ≡ q (cells this r))
      (perm : IsPermutation (after tree) (filter (λ x. not (q x)) (rows tree))) where
    abbrev schema : Schema
    schema = s.now.schema

    abbrev desk : HasDesk schema
    desk = has.declared

    abbrev own : HasTable schema this
    own = entry schema desk this there

    abbrev here : Table
    here = actual schema desk this there

    abbrev program : Program
    program = record { lets = []; body = query_on own.tree tests (col 1 0 ∷ []) [] }

    mine : AreStored this (rows tree) (s.now.trees own.tree)
    mine = shown_now name tree columns key primary uniques orders there rows after s has

    -- the rows that are left
    left : (found : List Row) → Answers (at schema s.now.trees) program params found
        → without_all (s.now.trees own.tree) (ids_of found)
        ≡ filter (λ r. not (passes tests params r)) (s.now.trees own.tree)
    left found answers = left_by schema s.now.trees own.tree tests [] params found answers this
        (rows tree) mine

    free : HaveKeys after → (found : List Row)
        → Answers (at schema s.now.trees) program params found
        → IsFree schema desk s.now.trees (edit_of s.now.trees here (ids_of found) Given 0 [])
    free keys found answers = record { allowed = allowed; stored = λ row none. absurd none }
      where
        are : AreStored this (after tree) (without_all (s.now.trees own.tree) (ids_of found))
        are = stored_as this _ (after tree) _ perm
            (subst (AreStored this (filter (λ x. not (q x)) (rows tree))) (sym (left found answers))
            (stored_less this (rows tree) (s.now.trees own.tree) mine (passes tests params) q
            agree))

        allowed : (why : Refusal) → IsRefused schema Enforced s.now.trees
            (edit_of s.now.trees here (ids_of found) Given 0 []) why → ⊥
        allowed (Violates Datatype) refused = absurd (let no = refused in cc)
        allowed (Violates NotNull) refused = absurd (let no = refused in cc)
        allowed (Violates Check) refused = absurd (let no = refused in cc)
        allowed (Violates PrimaryKey) refused = absurd (let no = refused in cc)
        allowed (Violates Unique) refused = refused
            (unique_kept schema desk this there (after tree)
            (without_all (s.now.trees own.tree) (ids_of found)) are
            (keys_of name tree columns key primary uniques orders there rows after s has keys)
            s.now.trees (has.sound.obeys.rules Unique))
        allowed (Violates ForeignKey) refused = refused
        allowed Mismatch refused = absurd (let no = refused in cc)
        allowed NoRowid refused = absurd (let no = refused in cc)
        allowed BadReference refused = absurd (let no = sym refused
            ∙ fits_none schema desk here refl false (nat_lt 0 (length (ids_of found))) in cc)
        allowed TooDeep refused = refused

    never_deleted : (none : s.step_limit ≡ None) (text : List ℕ)
        → accepts_program schema [] (query_on own.tree tests (col 1 0 ∷ []) []) params ≡ true
        → HaveKeys after
        → (stop : Option Error) → Does s.step_limit (mode_of s) params s.now text None
        (Delete own.place program) (Err stop) → ⊥
    never_deleted none text accepts keys stop did =
        let edit = λ (found : List Row). edit_of s.now.trees here (ids_of found) Given 0 [] in
        never_edited schema desk here s params own.tree tests (col 1 0 ∷ []) edit
        (λ found. taken_by s.now.trees (edit found)) none accepts (free keys) stop
        (rw own.listed at did)

  module _ {A : Type 0} (rows : A → ℕ → List Row) (made : A → A) (place : ℕ)
      (listed : slice_get desk_schema.tables place ≡ Some this) (sql : List ℕ) (params : Row)
      (tests : List Term) (q : Row → Bool)
      (reads : IsWrite sql (length params) tree (λ place at.
      Delete place (record { lets = []; body = query_on at tests (col 1 0 ∷ []) [] })))
      (accepts : accepts_program desk_schema [] (query_on tree tests (col 1 0 ∷ []) []) params
      ≡ true)
      (agree : (r : Row) → passes tests params r ≡ q (cells this r))
      (same : (a : A) → AllByRecursion (λ t. t.tree ≢ tree → rows (made a) t.tree ≡ rows a t.tree)
      desk_schema.tables)
      (perm : (a : A) → IsPermutation (rows (made a) tree) (filter (λ x. not (q x)) (rows a tree)))
      (old new : State) where
    there : Has desk_schema.tables this
    there = has_got desk_schema.tables place this listed

    uses : (count : ℕ) (a : A) → Executes sql params old new (Ok count) → HasRows (rows a) old.now
        → (n : ℕ) → HasRoom (n + 0) (labelled old.now) → HasRoom n (labelled new.now)
    uses count a executed has n room =
        let schema = old.now.schema in
        let own = entry schema has.declared this there in
        let program : Program = record {
          lets = [];
          body = query_on own.tree tests (col 1 0 ∷ []) [];
        } in
        let w = runs_as sql params old new schema refl (Delete own.place program)
        (writes_here reads this there refl schema has.declared)
        (plain_write reads this there refl schema has.declared) count executed in
        let step = deletes name own.tree (columns_with key own.not_null 0 columns) key primary
        uniques orders schema own.place own.listed (alone_in schema has.declared) old refl params
        (statement_of sql (understood schema sql)) new.now w.tally program w.changed in
        let kept = left there (rows a) (rows (made a)) old has params tests q agree (perm a) step.0
        step.1 in
        rooms_left this there old.now new.now has.declared step.2.schema_is step.2.applies.tables n
        room
        (λ none before. subst (AllByRecursion (λ r. LeavesRoom n (rowid r)))
        (sym (step.2.applies.rows ∙ kept))
        (all-filter (λ r. LeavesRoom n (rowid r)) (λ r. not (passes tests params r))
        (old.now.trees own.tree) before))

    pub deleted_turns : (r : Result (Unit {0}) Fault) → Ran sql params old new r
        → IfErr r (RanInto sql params old new) → Survives old new (λ _. ⊥)
        → Turns rows (λ a. rows (made a)) 0 old new r
    deleted_turns = turns_by rows (λ a. rows (made a)) 0 sql params old new
        (λ count a executed has. deleted name tree columns key primary uniques orders place listed
        sql params (rows a) (rows (made a)) (same a) old new count executed has tests q
        reads agree (perm a))
        uses
        (λ opened unlimited a has before after room.
        let schema = old.now.schema in
        let own = entry schema has.declared this there in
        caused schema sql params old new refl opened
        (plain_write reads this there refl schema has.declared)
        (suits_write reads this there refl schema has.declared)
        (Delete own.place
        (record { lets = []; body = query_on own.tree tests (col 1 0 ∷ []) [] }))
        (writes_here reads this there refl schema has.declared) refl
        (never_deleted there (rows a) (rows (made a)) old has params tests q agree
        (perm a) unlimited (statement_of sql (understood schema sql))
        (accepts_here tests (col 1 0 ∷ []) [] params this there accepts schema has.declared)
        after.keys))
