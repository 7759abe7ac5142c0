-- INSERT, UPDATE and DELETE of one table mean in any schema that has the table what they mean with
-- that table alone.
use Rattle.std.proofs.Common.{◌≡◌, ℕ, Bool, true, false, List, [], ◌∷◌, ◌++◌, slice_get}
use Rattle.std.proofs.Common.{Option, Some, None, Ok, Err, refl, ap, sym, ◌∙◌}
use Rattle.std.specs.Prelude.{◌==◌, ◌+◌, ◌&&◌, if◌then◌else◌, length, option_map, option_and_then}
use Rattle.std.specs.Prelude.{unwrap_or}
use Rattle.sqlite_ast.specs.declared.Expr.{Expr, out-Expr}
use Rattle.sqlite_ast.specs.declared.Expr.TheOpen.{Expr-F}
use Rattle.sqlite_ast.specs.Layer.{Layer}
use Rattle.sqlite_ast.specs.declared.Rows.{Rows}
use Rattle.sqlite_ast.specs.declared.Rows.TheVariants as rows
use Rattle.sqlite_ast.specs.declared.Shown.{Shown}
use Rattle.sqlite_ast.specs.declared.Conflict.TheVariants as conflict
use Rattle.sqlite_ast.specs.declared.Statement.{Statement}
use Rattle.sqlite_ast.specs.declared.Statement.TheVariants as statement
use Rattle.sqlite_syntax.specs.declared.statement.Parsed.{Parsed}
use Rattle.sqlite_sql.specs.Term.{Term, col}
use Rattle.sqlite_sql.specs.Query.{end, inner}
use Rattle.sqlite_schema.specs.declared.schema.Table.{Table}
use Rattle.sqlite_schema.specs.declared.schema.Schema.{Schema}
use Rattle.sqlite_schema.specs.declared.command.Command.{Command}
use Rattle.sqlite_schema.specs.declared.command.Command.TheVariants.{Insert, Update, Delete}
use Rattle.sqlite_schema.specs.declared.command.Returning.{Returning}
use Rattle.sqlite_schema.specs.declared.command.Source.{Source as Rows'}
use Rattle.sqlite_schema.specs.declared.program.Program.{Program}
use Rattle.sqlite_schema.specs.Names.{table_named}
use Rattle.sqlite_draft.specs.declared.join.Step.TheVariants.{Inner}
use Rattle.sqlite_draft.specs.declared.query.Draft.{Draft}
use Rattle.sqlite_draft.specs.Query.{query_of}
use Rattle.sqlite_resolve.specs.declared.compiled.Compiled.{Compiled}
use Rattle.sqlite_resolve.specs.declared.error.CompileError.TheVariants.{NoSuchTable, Unsupported}
use Rattle.sqlite_resolve.specs.declared.write.NewRows.{NewRows}
use Rattle.sqlite_resolve.specs.declared.write.NewRows.TheVariants.{Values, Query}
use Rattle.sqlite_resolve.specs.Lowering.{Checked, Lowering, ◌>>=◌, and_then, or_else, pure}
use Rattle.sqlite_resolve.specs.Lowering.{fail, get, spend, begin, finish, take_steps, fresh}
use Rattle.sqlite_resolve.specs.Lowering.{max_budget}
use Rattle.sqlite_resolve.specs.Scope.{Name}
use Rattle.sqlite_resolve.specs.Reach.{any_scans}
use Rattle.sqlite_resolve.specs.Body.{table_at, all, all_from}
use Rattle.sqlite_resolve.specs.Expr.{lower, lower_to, node, opened, passes}
use Rattle.sqlite_resolve.specs.Select.{outermost, value_of}
use Rattle.sqlite_resolve.specs.Program.{program}
use Rattle.sqlite_resolve.specs.Write.{places, with_place, row, value_row, value_rows_from}
use Rattle.sqlite_resolve.specs.Write.{value_rows, values, inserted, simple, over, sets_from, sets}
use Rattle.sqlite_resolve.specs.Write.{assigned, picked, updated_in, updated, deleted}
use Rattle.sqlite_resolve.specs.Compile.{first, compiled, planned, meaning, timed, formats_of}
use Rattle.sqlite_resolve.specs.Compile.{returning, shows, command, small, with_command}
use Rattle.sqlite_resolve.specs.Compile.{on_table, insert_or_abort, insert, new_rows, source_of}
use Rattle.sqlite_resolve.specs.Compile.{update, delete}
use Rattle.desk_base.proofs.Bools.{and_left, and_right}
use Rattle.desk_sql_layout.proofs.OneTable.{one, is_simple, is_simple_test, lower_same, tests_same}
use Rattle.desk_sql_layout.proofs.OneQuery.{Has, itself_named, typed_program, program_is}

-- ---- new rows, of parameters and numbers

abbrev pub is_constant_at : Layer → Bool
is_constant_at (Expr-F.Integer text) = true
is_constant_at (Expr-F.Parameter n) = true
is_constant_at _ = false

abbrev pub are_constant : List Expr → Bool
are_constant [] = true
are_constant (e ∷ more) = is_constant_at (out-Expr e) && are_constant more

abbrev pub are_constant_rows : List (List Expr) → Bool
are_constant_rows [] = true
are_constant_rows (r ∷ more) = are_constant r && are_constant_rows more

module _ (schema : Schema) (place : ℕ) (table : Table) where
  constant_at_same : (l : Layer) → is_constant_at l ≡ true
      → Rattle.sqlite_resolve.specs.Expr.node_at (lower_to 699) (outermost schema) l
      ≡ Rattle.sqlite_resolve.specs.Expr.node_at (lower_to 699) (outermost (one table)) l
  constant_at_same (Expr-F.Integer text) h = refl
  constant_at_same (Expr-F.Parameter n) h = refl
  constant_at_same _ h = absurd (cc)

  constant_same : (e : Expr) → is_constant_at (out-Expr e) ≡ true → lower (outermost schema) e
      ≡ lower (outermost (one table)) e
  unfolding lower_to node opened
  constant_same e h = ap (λ o. spend 1 >>= (λ _. begin >>=
      (λ outer. o >>= (λ t. finish outer (passes e) >>= (λ _. pure t)))))
      (constant_at_same (out-Expr e) h)

  constants_same : (done : List Term) (es : List Expr) → are_constant es ≡ true
      → all_from lower (outermost schema) done es ≡ all_from lower (outermost (one table)) done es
  constants_same done [] h = refl
  constants_same done (e ∷ more) h =
      let one = and_left (is_constant_at (out-Expr e)) (are_constant more) h in
      let rest = and_right (is_constant_at (out-Expr e)) (are_constant more) h in
      λ i. constant_same e one i >>= (λ t. constants_same (done ++ t ∷ []) more rest i)

  row_same : (base : ℕ) (at : List ℕ) (done : List Term) (r : List Expr) → are_constant r ≡ true
      → value_row schema table base at done r ≡ value_row (one table) table base at done r
  unfolding value_row all
  row_same base at done r h = λ i. λ s. and_then
      (constants_same [] r h i (record s { budget = max_budget }))
      (λ x. and_then (row table (Some base) at done x.0) (λ longer. Ok (longer, x.1)))

  rows_same : (base : ℕ) (at : List ℕ) (done : List Term) (all : List (List Expr))
      → are_constant_rows all ≡ true
      → value_rows_from schema table base at done all
      ≡ value_rows_from (one table) table base at done all
  rows_same base at done [] h = refl
  rows_same base at done (r ∷ more) h =
      let one = and_left (are_constant r) (are_constant_rows more) h in
      let rest = and_right (are_constant r) (are_constant_rows more) h in
      λ i. row_same base at done r one i >>= (λ longer. rows_same base at longer more rest i)

  abbrev pub are_values : Rows → Bool
  are_values (rows.Values all) = are_constant_rows all
  are_values _ = false

  inserted_same : (base : ℕ) (names : List Name) (r : Rows) → are_values r ≡ true
      → inserted schema table base names r ≡ inserted (one table) table base names r
  unfolding inserted values value_rows
  inserted_same base names (rows.Values all) h = λ i. and_then (places table names) (λ at.
      and_then (rows_same base at [] all h i (fresh 1 max_budget)) (λ r.
      if length r.1.steps == 0 then Ok (Values r.0) else
      (if length all == 1 then Ok (Query [] (simple r.1.steps [] r.0)) else Err Unsupported)))
  inserted_same base names _ h = absurd (cc)

  abbrev pub NeedNoQuery : Checked NewRows → Type 0
  NeedNoQuery (Ok (Values terms)) = Unit {0}
  NeedNoQuery (Ok (Query lets d)) = ⊥
  NeedNoQuery (Err e) = ⊥

  new_rows_same : (base : ℕ) (names : List Name) (r : Rows) → are_values r ≡ true
      → NeedNoQuery (inserted (one table) table base names r)
      → new_rows schema table base names r ≡ new_rows (one table) table base names r
  unfolding new_rows source_of
  new_rows_same base names r h plain =
      ap (λ x. and_then x (source_of schema (length table.columns + 1)))
      (inserted_same base names r h)
      ∙ by (inserted (one table) table base names r) plain
    where
      by : (x : Checked NewRows) → NeedNoQuery x
          → and_then x (source_of schema (length table.columns + 1))
          ≡ and_then x (source_of (one table) (length table.columns + 1))
      by (Ok (Values terms)) plain = refl
      by (Ok (Query lets d)) plain = absurd plain
      by (Err e) plain = refl

-- ---- the rows that are changed or go

abbrev pub are_simple_sets : List (Name × Expr) → Bool
are_simple_sets [] = true
are_simple_sets (set ∷ more) = is_simple set.1 && are_simple_sets more

abbrev pub ScansIt : ℕ → Checked Draft → Type 0
ScansIt tree (Ok d) = (query_of d).from ≡ inner tree end
ScansIt tree (Err e) = ⊥

-- the command that reads these rows
abbrev pub edits : Table → (Program → Command) → Checked Draft → Checked Command
edits table make r = and_then r (λ d. and_then (typed_program table d) (λ p. Ok (make p)))

module _ (schema : Schema) (place : ℕ) (table : Table) (has : Has schema place table) where
  picked_same : (project : List Term) (test : Option Expr) → is_simple_test test ≡ true
      → picked (over schema place table.name) table project test
      ≡ picked (over (one table) 0 table.name) table project test
  unfolding picked
  picked_same project test h = λ i. tests_same schema place table has.listed table.name [] false []
      test h i >>= (λ filter.
      take_steps >>= (λ steps. pure (simple (Inner table.tree ∷ steps) filter project)))

  deleted_same : (test : Option Expr) → is_simple_test test ≡ true → deleted schema place table test
      ≡ deleted (one table) 0 table test
  unfolding deleted
  deleted_same test h = ap (λ (p : Lowering Draft). value_of (p (fresh 2 max_budget)))
      (picked_same (col 1 0 ∷ []) test h)

  sets_from_same : (done : List ℕ × List Term) (all : List (Name × Expr)) → are_simple_sets all
      ≡ true
      → sets_from (over schema place table.name) table done all
      ≡ sets_from (over (one table) 0 table.name) table done all
  sets_from_same done [] h = refl
  sets_from_same done (set ∷ more) h =
      let one = and_left (is_simple set.1) (are_simple_sets more) h in
      let rest = and_right (is_simple set.1) (are_simple_sets more) h in
      λ i. λ s. and_then (with_place table done.0 set.0) (λ at.
      and_then (lower_same schema place table has.listed table.name [] false 700 set.1 one i s)
      (λ r. sets_from_same (at, done.1 ++ r.0 ∷ []) more rest i r.1))

  updated_same : (all : List (Name × Expr)) (test : Option Expr) → are_simple_sets all ≡ true
      → is_simple_test test ≡ true
      → updated schema place table all test ≡ updated (one table) 0 table all test
  unfolding updated updated_in assigned sets
  updated_same all test h k = λ i.
      and_then ((sets_from_same ([], []) all h i >>=
      (λ found. get >>= (λ s. if any_scans table.tree s.steps then fail Unsupported else pure
      found))) (fresh 2 max_budget)) (λ r.
      and_then (row table None r.0.0 (col 1 0 ∷ []) r.0.1)
      (λ project. value_of (picked_same project test k i r.1)))

  -- ---- the table

  on_it : (name : Name) (f : ℕ → Table → Checked Command) → name ≡ table.name
      → on_table schema name f ≡ f place table
  on_it name f is =
      (λ i. and_then (or_else (table_named schema (is i)) NoSuchTable)
      (λ at. and_then (table_at schema at) (f at)))
      ∙ (λ i. and_then (or_else (has.named i) NoSuchTable)
      (λ at. and_then (table_at schema at) (f at)))
      ∙ (λ i. and_then (or_else (has.listed i) NoSuchTable) (f place))

  insert_same : (base : ℕ) (name : Name) (names : List Name) (r : Rows) → name ≡ table.name
      → are_values schema place table r ≡ true
      → NeedNoQuery schema place table (inserted (one table) table base names r)
      → insert schema base name names r ≡ and_then (new_rows (one table) table base names r)
      (λ s. Ok (Insert place s))
  unfolding insert
  insert_same base name names r is h plain =
      on_it name (λ at t. and_then (new_rows schema t base names r) (λ s. Ok (Insert at s))) is
      ∙ ap (λ (x : Checked Rows'). and_then x (λ s. Ok (Insert place s)))
      (new_rows_same schema place table base names r h plain)

  edit_same : (make : Program → Command) (x y : Checked Draft) → x ≡ y → ScansIt table.tree y
      → and_then x (λ d. and_then (program schema [] d) (λ p. Ok (make p))) ≡ edits table make y
  edit_same make x (Ok d) same scans =
      ap (λ x. and_then x (λ d. and_then {B = Command} (program schema [] d) (λ p. Ok (make p))))
      same
      ∙ ap (λ (x : Checked Program). and_then x (λ p. Ok (make p)))
      (program_is schema place table has d scans)
  edit_same make x (Err e) same scans = absurd scans

  delete_same : (name : Name) (test : Option Expr) → name ≡ table.name → is_simple_test test ≡ true
      → ScansIt table.tree (deleted (one table) 0 table test)
      → delete schema name test ≡ edits table (Delete place) (deleted (one table) 0 table test)
  unfolding delete
  delete_same name test is h scans =
      on_it name (λ at t. and_then (deleted schema at t test)
      (λ d. and_then (program schema [] d) (λ p. Ok (Delete at p)))) is
      ∙ edit_same (Delete place) (deleted schema place table test)
      (deleted (one table) 0 table test) (deleted_same test h) scans

  update_same : (name : Name) (all : List (Name × Expr)) (test : Option Expr) → name ≡ table.name
      → are_simple_sets all ≡ true → is_simple_test test ≡ true
      → ScansIt table.tree (updated (one table) 0 table all test)
      → update schema name all test ≡ edits table (Update place)
      (updated (one table) 0 table all test)
  unfolding update
  update_same name all test is h k scans =
      on_it name (λ at t. and_then (updated schema at t all test)
      (λ d. and_then (program schema [] d) (λ p. Ok (Update at p)))) is
      ∙ edit_same (Update place) (updated schema place table all test)
      (updated (one table) 0 table all test) (updated_same all test h k) scans

-- ---- the statement

module _ (table : Table) where
  -- the statement is an INSERT, UPDATE or DELETE of the table alone
  abbrev pub IsWriteOf : ℕ → Statement → Type 0
  IsWriteOf base (statement.Insert conflict.Abort name names r clauses shown) =
      (name ≡ table.name) × (clauses ≡ []) × (shown ≡ [])
      × (are_values (one table) 0 table r ≡ true)
      × NeedNoQuery (one table) 0 table (inserted (one table) table base names r)
  IsWriteOf base (statement.Update name all test shown) =
      (name ≡ table.name) × (shown ≡ []) × (are_simple_sets all ≡ true)
      × (is_simple_test test ≡ true) × ScansIt table.tree (updated (one table) 0 table all test)
  IsWriteOf base (statement.Delete name test shown) =
      (name ≡ table.name) × (shown ≡ []) × (is_simple_test test ≡ true)
      × ScansIt table.tree (deleted (one table) 0 table test)
  IsWriteOf base _ = ⊥

  abbrev pub base_of : Parsed → ℕ
  base_of p = small p.names + small (timed (one table) p.formats p.statement)

  abbrev pub Writes : Checked Parsed → Type 0
  Writes (Ok p) = IsWriteOf (base_of p) p.statement
  Writes (Err e) = ⊥

-- what a statement means with the table alone, at this place
abbrev pub written : ℕ → Table → ℕ → Statement → Checked Command
written place table base (statement.Insert conflict.Abort name names r clauses shown) = and_then
    (new_rows (one table) table base names r) (λ s. Ok (Insert place s))
written place table base (statement.Update name all test shown) = edits table (Update place)
    (updated (one table) 0 table all test)
written place table base (statement.Delete name test shown) = edits table (Delete place)
    (deleted (one table) 0 table test)
written place table base _ = Err Unsupported

abbrev pub written_by : Table → Parsed → Checked Command → Checked Compiled
written_by table p c = and_then c (λ k. Ok (with_command p
    (timed (one table) p.formats p.statement, (k, None))))

-- what a text means, that is a write, with the table alone
abbrev pub means : ℕ → Table → Checked Parsed → Checked Compiled
means place table r = and_then r (λ p. written_by table p
    (written place table (base_of table p) p.statement))

module _ (schema : Schema) (place : ℕ) (table : Table) (has : Has schema place table) where
  no_formats : (name : Name) → name ≡ table.name → formats_of schema name
      ≡ formats_of (one table) name
  no_formats name is =
      (λ i. unwrap_or (option_map (λ (t : Table). t.stamps.formats)
      (option_and_then (slice_get schema.tables) (table_named schema (is i)))) [])
      ∙ (λ i. unwrap_or (option_map (λ (t : Table). t.stamps.formats)
      (option_and_then (slice_get schema.tables) (has.named i))) [])
      ∙ (λ i. unwrap_or (option_map (λ (t : Table). t.stamps.formats) (has.listed i)) [])
      ∙ sym (λ i. unwrap_or (option_map (λ (t : Table). t.stamps.formats)
      (option_and_then (slice_get (one table).tables) (itself_named table i))) [])
      ∙ sym (λ i. unwrap_or (option_map (λ (t : Table). t.stamps.formats)
      (option_and_then (slice_get (one table).tables) (table_named (one table) (is i)))) [])

  timed_write : (base : ℕ) (formats : List Name) (s : Statement) → IsWriteOf table base s
      → timed schema formats s ≡ timed (one table) formats s
  unfolding timed
  timed_write base formats (statement.Insert conflict.Abort name names r clauses shown) is = ap
      (λ l. formats ++ l) (no_formats name is.0)
  timed_write base formats (statement.Update name all test shown) is = refl
  timed_write base formats (statement.Delete name test shown) is = refl
  timed_write base formats _ is = absurd is

  shows_none : (base : ℕ) (name : Name) (shown : List Shown) → shown ≡ []
      → shows schema base name shown ≡ Ok None
  unfolding shows
  shows_none base name shown is = ap (shows schema base name) is

  returning_write : (base : ℕ) (s : Statement) → IsWriteOf table base s → returning schema base s
      ≡ Ok None
  unfolding returning
  returning_write base (statement.Insert conflict.Abort name names r clauses shown) is = shows_none
      base name shown is.2
  returning_write base (statement.Update name all test shown) is = shows_none base name shown is.1
  returning_write base (statement.Delete name test shown) is = shows_none base name shown is.1
  returning_write base _ is = absurd is

  command_write : (formats : List Name) (base : ℕ) (s : Statement) → IsWriteOf table base s
      → command schema formats base s ≡ written place table base s
  unfolding command insert_or_abort
  command_write formats base (statement.Insert conflict.Abort name names r clauses shown) is =
      ap (insert_or_abort schema base name names r) is.1
      ∙ insert_same schema place table has base name names r is.0 is.3 is.4
  command_write formats base (statement.Update name all test shown) is = update_same schema place
      table has name all test is.0 is.2 is.3 is.4
  command_write formats base (statement.Delete name test shown) is = delete_same schema place table
      has name test is.0 is.2 is.3
  command_write formats base _ is = absurd is

  ends : (p : Parsed) (formats : List Name) (c : Checked Command)
      → and_then (and_then (and_then c (λ k. Ok (k, None))) (λ found. Ok (formats, found)))
      (λ plan. Ok (with_command p plan))
      ≡ and_then c (λ k. Ok (with_command p (formats, (k, None))))
  ends p formats (Ok k) = refl
  ends p formats (Err e) = refl

  planned_write : (p : Parsed) → IsWriteOf table (base_of table p) p.statement
      → and_then (planned schema p) (λ plan. Ok (with_command p plan))
      ≡ written_by table p (written place table (base_of table p) p.statement)
  unfolding planned meaning
  planned_write p is =
      let at = base_of table p in
      (λ i. let formats = timed_write at p.formats p.statement is i in
      let base = small p.names + small formats in
      and_then {A = List Name × (Command × Option Returning)} {B = Compiled}
      (and_then {A = Command × Option Returning} {B = List Name × (Command × Option Returning)}
      (and_then {A = Option Returning} {B = Command × Option Returning}
      (returning schema base p.statement) (λ shown. and_then {A = Command}
      {B = Command × Option Returning} (command schema p.formats base p.statement)
      (λ c. Ok (c, shown))))
      (λ found. Ok (formats, found))) (λ plan. Ok (with_command p plan)))
      ∙ (λ i. and_then {A = List Name × (Command × Option Returning)} {B = Compiled}
      (and_then {A = Command × Option Returning} {B = List Name × (Command × Option Returning)}
      (and_then {A = Option Returning} {B = Command × Option Returning}
      (returning_write at p.statement is i)
      (λ shown. and_then {A = Command} {B = Command × Option Returning}
      (command_write p.formats at p.statement is i) (λ c. Ok (c, shown))))
      (λ found. Ok (timed (one table) p.formats p.statement, found)))
      (λ plan. Ok (with_command p plan)))
      ∙ ends p (timed (one table) p.formats p.statement) (written place table at p.statement)

  -- the meaning of a text that writes the table
  pub compiled_write : (text : List ℕ) → Writes table (first text) → compiled schema text
      ≡ means place table (first text)
  unfolding compiled
  compiled_write text is = by (first text) is
    where
      by : (r : Checked Parsed) → Writes table r
          → and_then r (λ p. and_then (planned schema p) (λ plan. Ok (with_command p plan)))
          ≡ means place table r
      by (Ok p) is = planned_write p is
      by (Err e) is = absurd is
