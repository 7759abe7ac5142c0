-- What INSERT, DELETE and UPDATE of one table do if there are no foreign keys.
use Rattle.std.proofs.Common.{◌≡◌, ◌⊎◌, inl, inr, ℕ, List, [], ◌∷◌, flat_map, length, slice_get}
use Rattle.std.proofs.Common.{Option, Some, None, Ok, Err, Result, refl, sym, ap, subst}
use Rattle.std.proofs.Common.{◌∙◌, append-nil}
use Rattle.std.specs.Prelude.{◌/◌}
use Rattle.std.specs.List.{AllByRecursion, filter_map}
use Rattle.sqlite_value.specs.declared.keys.Order.{Order}
use Rattle.sqlite_value.specs.Order.{Row}
use Rattle.sqlite_trees.specs.Tree.{Trees}
use Rattle.sqlite_sql.specs.Term.{Term}
use Rattle.sqlite_schema.specs.declared.schema.Column.{Column}
use Rattle.sqlite_schema.specs.declared.schema.Table.{Table}
use Rattle.sqlite_schema.specs.declared.schema.Schema.{Schema}
use Rattle.sqlite_schema.specs.declared.schema.Keys.{Keys}
use Rattle.sqlite_schema.specs.declared.schema.Keys.TheVariants.{Enforced}
use Rattle.sqlite_schema.specs.declared.program.Program.{Program}
use Rattle.sqlite_schema.specs.declared.command.Command.TheVariants.{Insert, Update, Delete}
use Rattle.sqlite_schema.specs.declared.command.Source.TheVariants.{Values}
use Rattle.sqlite_rules.specs.declared.error.Rowids.TheVariants.{Chosen, Given}
use Rattle.sqlite_rules.specs.Edit.{Edit, edit_of, taken_by, Applies}
use Rattle.sqlite_rules.specs.Calls.{ids_of}
use Rattle.sqlite_rules.specs.Action.{works, work_for}
use Rattle.sqlite_rules.proofs.ActionLemmas.{no_works}
use Rattle.sqlite.specs.Effect.{Database, value_rows, Answers}
use Rattle.sqlite.specs.Rows.{Part, Then, Gives, Queried, Edited, Written, Task}
use Rattle.sqlite.specs.Does.{Tally, Does, Concludes}
use Rattle.sqlite.specs.State.{State, mode_of}
use Rattle.sqlite.proofs.Callers.{one_step}
use Rattle.desk_sql_layout.specs.Layout.{table_of}

pub same_value : {B E : Type 0} {a b : B} → ◌≡◌ {A = Result B E} (Ok a) (Ok b) → a ≡ b
same_value e = cc

abbrev pub at : Schema → Trees → Database
at schema trees = record { schema = schema; trees = trees }

-- a step of one table was made, and nothing else
pub record Stepped (schema : Schema) (old new : Database) (edit : Edit) : Type 0 where
  pub schema_is : new.schema ≡ schema
  pub applies : Applies schema Enforced old.trees edit new.trees

-- a part that returned a value did not stop on the way
pub went : {B E R : Type 0} {b : B} {Stops : E → Type 0}
    → ((stop : E) × Stops stop × (Ok b ≡ Err stop)) ⊎ R → R
went (inl stopped) = absurd (let e = stopped.2 in cc)
went (inr on) = on

-- no table has a foreign key
abbrev pub HasNoKeys : Schema → Type 0
HasNoKeys schema = AllByRecursion (λ t. t.references ≡ []) schema.tables

pub no_actions : (schema : Schema) (keys : Keys) (depth tree : ℕ) (olds news : List Row)
    → HasNoKeys schema → works schema keys depth tree olds news ≡ []
no_actions schema keys depth tree olds news none = each schema.tables none
  where
    each : (tables : List Table) → AllByRecursion (λ t. t.references ≡ []) tables
        → flat_map (λ child. filter_map (work_for schema keys depth tree olds news child)
        child.references) tables ≡ []
    each [] h = refl
    each (t ∷ tables) h = rw h.0 (each tables h.1)

-- what was written is the next database
stepped : (schema : Schema) (old new : Database) (edit : Edit) (done written : Trees)
    → new ≡ at schema done → done ≡ written → Applies schema Enforced old.trees edit written
    → Stepped schema old new edit
stepped schema old new edit done written now trees applies = record {
  schema_is = ap (λ (d : Database). d.schema) now;
  applies = subst (Applies schema Enforced old.trees edit)
      (sym (ap (λ (d : Database). d.trees) now ∙ trees)) applies;
}

-- A query shows rows, and the edit that they make is written: a DELETE or an UPDATE.
abbrev pub Editing : Schema → State → Row → Program → (List Row → Edit) → (List Row → List Row)
    → Part Written
Editing schema s params q edit out =
    Then (Queried s.step_limit (at schema s.now.trees) q params)
    (λ rows. Then (Edited schema Enforced s.now.trees (edit rows))
    (λ next. Gives (record { trees = next; rows = out rows; last = None })))

module _ (name : List ℕ) (tree : ℕ) (columns : List Column) (key : Option ℕ) (primary : List ℕ)
    (uniques : List (List ℕ)) (orders : List Order) where
  abbrev this : Table
  this = table_of name tree columns key primary uniques orders

  module _ (schema : Schema) (place : ℕ) (listed : slice_get schema.tables place ≡ Some this)
      (alone : HasNoKeys schema) (s : State) (has : s.now.schema ≡ schema) (params : Row)
      (text : List ℕ) (new : Database) (tally : Tally) where
    abbrev doing : Task
    doing = record {
      limit = s.step_limit;
      keys = Enforced;
      schema = schema;
      table = this;
      params = params;
    }

    pub inserts : (terms : List Term) (width : ℕ) (sources : List Row)
        → value_rows params width (length terms / width) terms ≡ sources
        → Does s.step_limit (mode_of s) params s.now text None (Insert place (Values terms width))
        (Ok (tally, new))
        → Stepped schema s.now new (edit_of s.now.trees this [] Chosen 0 sources)
    inserts terms width sources source did =
        let db = s.now.trees in
        let it = rw (has, listed) at did in
        let done = went it in
        let now : new ≡ at schema done.0.trees =
        ap (λ (p : Tally × Database). p.1) (same_value (went (went done.2).2).2) in
        let given = went done.1 in
        let written = went (went given.2).2 in
        let counted = went written.2 in
        let trees : done.0.trees ≡ written.0 =
        ap (λ (it : Written). it.trees) (same_value counted.2) ∙ same_value counted.1 in
        let rows : given.0 ≡ sources = given.1.1 ∙ rw append-nil source in
        let edit = λ (rows : List Row). edit_of db this [] Chosen 0 rows in
        subst (λ rows. Stepped schema s.now new (edit rows)) rows
        (stepped schema s.now new (edit given.0) done.0.trees written.0 now trees
        (one_step schema Enforced db written.0 (edit given.0) (no_works schema Enforced 0 tree _)
        written.1))

    -- the edit that the rows of a query make
    edits : (q : Program) (edit : List Row → Edit) (out : List Row → List Row)
        → Then (Editing schema s params q edit out) (Concludes doing (mode_of s) None)
        (Ok (tally, new))
        → (rows : List Row) × Answers (at schema s.now.trees) q params rows
        × Stepped schema s.now new (edit rows)
    edits q edit out it =
        let db = s.now.trees in
        let done = went it in
        let now : new ≡ at schema done.0.trees =
        ap (λ (p : Tally × Database). p.1) (same_value (went (went done.2).2).2) in
        let given = went done.1 in
        let written = went given.2 in
        let trees : done.0.trees ≡ written.0 =
        ap (λ (it : Written). it.trees) (same_value written.2) in
        let one = edit given.0 in (
          given.0,
          given.1,
          stepped schema s.now new one done.0.trees written.0 now trees
              (one_step schema Enforced db written.0 one
              (no_actions schema Enforced 0 one.table.tree (taken_by db one) one.news alone)
              written.1),
        )

    pub deletes : (q : Program)
        → Does s.step_limit (mode_of s) params s.now text None (Delete place q) (Ok (tally, new))
        → (rows : List Row) × Answers (at schema s.now.trees) q params rows
        × Stepped schema s.now new (edit_of s.now.trees this (ids_of rows) Given 0 [])
    deletes q did =
        let edit = λ (rows : List Row). edit_of s.now.trees this (ids_of rows) Given 0 [] in
        edits q edit (λ rows. taken_by s.now.trees (edit rows)) (rw (has, listed) at did)

    pub updates : (q : Program)
        → Does s.step_limit (mode_of s) params s.now text None (Update place q) (Ok (tally, new))
        → (rows : List Row) × Answers (at schema s.now.trees) q params rows
        × Stepped schema s.now new (edit_of s.now.trees this (ids_of rows) Given 1 rows)
    updates q did =
        let edit = λ (rows : List Row). edit_of s.now.trees this (ids_of rows) Given 1 rows in
        edits q edit (λ rows. (edit rows).news) (rw (has, listed) at did)
