-- An INSERT of what is selected from another table means in any schema that has both tables what it
-- means with each of them alone.
use Rattle.std.proofs.Common.{◌≡◌, ℕ, List, [], ◌++◌, slice_get, Option, None}
use Rattle.std.proofs.Common.{Ok, Err, ap, refl, sym, ◌∙◌}
use Rattle.std.specs.Prelude.{◌+◌, length, option_and_then, option_map, unwrap_or}
use Rattle.sqlite_value.specs.declared.keys.Collation.{Collation}
use Rattle.sqlite_ast.specs.declared.Conflict.TheVariants as conflict
use Rattle.sqlite_ast.specs.declared.Rows.TheVariants as rows
use Rattle.sqlite_ast.specs.declared.Select.{Select, out-Select}
use Rattle.sqlite_ast.specs.declared.Statement.{Statement}
use Rattle.sqlite_ast.specs.declared.Statement.TheVariants as statement
use Rattle.sqlite_syntax.specs.declared.statement.Parsed.{Parsed}
use Rattle.sqlite_sql.specs.Term.{Term}
use Rattle.sqlite_schema.specs.declared.command.Command.{Command}
use Rattle.sqlite_schema.specs.declared.command.Command.TheVariants.{Insert}
use Rattle.sqlite_schema.specs.declared.command.Returning.{Returning}
use Rattle.sqlite_schema.specs.declared.command.Source.{Source}
use Rattle.sqlite_schema.specs.declared.command.Source.TheVariants.{Query}
use Rattle.sqlite_schema.specs.declared.program.Program.{Program}
use Rattle.sqlite_schema.specs.declared.program.Table.{Table as Let}
use Rattle.sqlite_schema.specs.declared.schema.Schema.{Schema}
use Rattle.sqlite_schema.specs.declared.schema.Table.{Table}
use Rattle.sqlite_schema.specs.Names.{table_named}
use Rattle.sqlite_draft.specs.declared.query.Draft.{Draft}
use Rattle.sqlite_resolve.specs.declared.compiled.Compiled.{Compiled}
use Rattle.sqlite_resolve.specs.declared.error.CompileError.TheVariants.{NoSuchTable, Unsupported}
use Rattle.sqlite_resolve.specs.declared.write.NewRows.{NewRows}
use Rattle.sqlite_resolve.specs.declared.write.NewRows.TheVariants.{Query as Selected}
use Rattle.sqlite_resolve.specs.Body.{table_at}
use Rattle.sqlite_resolve.specs.Compile.{command, compiled, first, formats_of, insert}
use Rattle.sqlite_resolve.specs.Compile.{insert_or_abort, meaning, new_rows, planned}
use Rattle.sqlite_resolve.specs.Compile.{queried, returning, shows, small, source_of}
use Rattle.sqlite_resolve.specs.Compile.{timed, with_command}
use Rattle.sqlite_resolve.specs.Lowering.{Checked, and_then, or_else}
use Rattle.sqlite_resolve.specs.Program.{Shown as Answer}
use Rattle.sqlite_resolve.specs.Scope.{Name}
use Rattle.sqlite_resolve.specs.Select.{named}
use Rattle.sqlite_resolve.specs.Write.{as_row, inserted, places, selected}
use Rattle.desk_sql_layout.proofs.OneTable.{one}
use Rattle.desk_sql_layout.proofs.OneQuery.{Has, IsOneSelect, Scans, itself_named, named_same}
use Rattle.desk_sql_layout.proofs.OneQuery.{program_is, query_is, simple_select, typed_program}
use Rattle.desk_sql_layout.proofs.OneQuery.{unpaged}
use Rattle.desk_sql_layout.proofs.OneWrite.{base_of, written_by}

module _ (table source : Table) where
  -- the query, whose rows are laid out as those of the other table
  abbrev laid : Draft → List Term × List Collation → Draft
  laid d r = record d { project = r.0; collations = r.1 }

  -- the command, by what is selected
  abbrev filled : ℕ → ℕ → List ℕ → Checked Answer → Checked Command
  filled place base at shown = and_then shown (λ x. and_then (as_row table base at x.0)
      (λ r. and_then (typed_program source (laid x.0 r)) (λ p. Ok (Insert place (Query p)))))

  -- what a statement means with each table alone, the one at this place
  abbrev pub copied : ℕ → ℕ → Statement → Checked Command
  copied place base (statement.Insert conflict.Abort name names (rows.Select s) clauses shown) =
      and_then (places table names) (λ at. filled place base at
      (named (one source) (out-Select s).first (out-Select s).order unpaged))
  copied place base _ = Err Unsupported

  -- the statement is an INSERT into the one of what is selected from the other
  abbrev pub IsCopyOf : Statement → Type 0
  IsCopyOf (statement.Insert conflict.Abort name names (rows.Select s) clauses shown) =
      (name ≡ table.name) × (clauses ≡ []) × (shown ≡ []) × IsOneSelect source s
  IsCopyOf _ = ⊥

  abbrev pub Copies : Checked Parsed → Type 0
  Copies (Ok p) = IsCopyOf p.statement
  Copies (Err e) = ⊥

  -- what a text means with each table alone
  abbrev pub copy : ℕ → Checked Parsed → Checked Compiled
  copy place r = and_then r (λ p. written_by table p (copied place (base_of table p) p.statement))

module _ (schema : Schema) (place at : ℕ) (table source : Table) (has : Has schema place table)
    (from : Has schema at source) where
  -- ---- the query

  abbrev selection : Select → Checked Answer
  selection s = named (one source) (out-Select s).first (out-Select s).order unpaged

  selection_same : (s : Select) → IsOneSelect source s
      → named schema (out-Select s).first (out-Select s).order unpaged ≡ selection s
  selection_same s is =
      let simple = simple_select s is.0 in
      named_same (out-Select s).first (out-Select s).order unpaged schema at source from.listed
      simple.core simple.order (ap (table_named schema) is.1 ∙ from.named)
      (ap (table_named (one source)) is.1 ∙ itself_named source)

  abbrev rows_by : Checked NewRows → Checked Command
  rows_by r = and_then (and_then r (source_of schema (length table.columns + 1)))
      (λ s. Ok (Insert place s))

  ending : (p : Checked Program)
      → and_then (and_then p (λ q. Ok (Query q))) (λ (s : Source). Ok (Insert place s))
      ≡ and_then p (λ q. Ok (Insert place (Query q)))
  ending (Ok p) = refl
  ending (Err e) = refl

  laid_same : (x : Answer) → Scans source.tree (Ok x)
      → (r : Checked (List Term × List Collation))
      → rows_by (and_then r (λ r. Ok (Selected [] (laid table source x.0 r))))
      ≡ and_then r (λ r. and_then (typed_program source (laid table source x.0 r))
      (λ p. Ok (Insert place (Query p))))
  unfolding source_of queried
  laid_same x scans (Ok r) =
      ap (λ (p : Checked Program). and_then (and_then p (λ q. Ok (Query q)))
      (λ (s : Source). Ok (Insert place s)))
      (program_is schema at source from (laid table source x.0 r) scans)
      ∙ ending (typed_program source (laid table source x.0 r))
  laid_same x scans (Err e) = refl

  selected_same : (base : ℕ) (cells : List ℕ) (s : Select) → IsOneSelect source s
      → rows_by (selected schema table base cells s)
      ≡ filled table source place base cells (selection s)
  unfolding selected
  selected_same base cells s is = by (selection s) refl is.2
    where
      by : (r : Checked Answer) → selection s ≡ r → Scans source.tree r
          → rows_by (selected schema table base cells s)
          ≡ filled table source place base cells (selection s)
      by (Ok x) known scans =
          (λ i. rows_by (and_then {A = Answer × List Let} {B = NewRows}
          (query_is schema s (simple_select s is.0) x (selection_same s is ∙ known) i)
          (λ q. and_then (as_row table base cells q.0.0)
          (λ r. Ok (Selected q.1 (laid table source q.0.0 r))))))
          ∙ laid_same x scans (as_row table base cells x.0)
          ∙ sym (ap (filled table source place base cells) known)
      by (Err e) known scans = absurd scans

  -- ---- the statement

  placed_same : (base : ℕ) (s : Select) → IsOneSelect source s → (r : Checked (List ℕ))
      → rows_by (and_then r (λ cells. selected schema table base cells s))
      ≡ and_then r (λ cells. filled table source place base cells (selection s))
  placed_same base s is (Ok cells) = selected_same base cells s is
  placed_same base s is (Err e) = refl

  inserted_same : (base : ℕ) (name : Name) (names : List Name) (s : Select) → name ≡ table.name
      → IsOneSelect source s → insert schema base name names (rows.Select s)
      ≡ and_then (places table names)
      (λ cells. filled table source place base cells (selection s))
  unfolding insert new_rows inserted
  inserted_same base name names s is one_select =
      (λ i. and_then (or_else (table_named schema (is i)) NoSuchTable)
      (λ at. and_then (table_at schema at) (λ t. and_then (new_rows schema t base names (rows.Select s)) (λ s. Ok (Insert at s)))))
      ∙ (λ i. and_then (or_else (has.named i) NoSuchTable)
      (λ at. and_then (table_at schema at) (λ t. and_then (new_rows schema t base names (rows.Select s)) (λ s. Ok (Insert at s)))))
      ∙ (λ i. and_then (or_else (has.listed i) NoSuchTable)
      (λ t. and_then (new_rows schema t base names (rows.Select s)) (λ s. Ok (Insert place s))))
      ∙ placed_same base s one_select (places table names)

  command_copy : (formats : List Name) (base : ℕ) (s : Statement) → IsCopyOf table source s
      → command schema formats base s ≡ copied table source place base s
  unfolding command insert_or_abort
  command_copy formats base (statement.Insert conflict.Abort name names (rows.Select s) clauses
      shown) is =
      ap (insert_or_abort schema base name names (rows.Select s)) is.1
      ∙ inserted_same base name names s is.0 is.3
  command_copy formats base _ is = absurd is

  -- ---- the text

  no_formats : (name : Name) → name ≡ table.name → formats_of schema name
      ≡ formats_of (one table) name
  no_formats name is =
      (λ i. unwrap_or (option_map (λ (t : Table). t.stamps.formats)
      (option_and_then (slice_get schema.tables) (table_named schema (is i)))) [])
      ∙ (λ i. unwrap_or (option_map (λ (t : Table). t.stamps.formats)
      (option_and_then (slice_get schema.tables) (has.named i))) [])
      ∙ (λ i. unwrap_or (option_map (λ (t : Table). t.stamps.formats) (has.listed i)) [])
      ∙ sym (λ i. unwrap_or (option_map (λ (t : Table). t.stamps.formats)
      (option_and_then (slice_get (one table).tables) (itself_named table i))) [])
      ∙ sym (λ i. unwrap_or (option_map (λ (t : Table). t.stamps.formats)
      (option_and_then (slice_get (one table).tables) (table_named (one table) (is i)))) [])

  timed_copy : (formats : List Name) (s : Statement) → IsCopyOf table source s
      → timed schema formats s ≡ timed (one table) formats s
  unfolding timed
  timed_copy formats (statement.Insert conflict.Abort name names (rows.Select s) clauses shown) is =
      ap (λ l. formats ++ l) (no_formats name is.0)
  timed_copy formats _ is = absurd is

  returning_copy : (base : ℕ) (s : Statement) → IsCopyOf table source s
      → returning schema base s ≡ Ok None
  unfolding returning shows
  returning_copy base (statement.Insert conflict.Abort name names (rows.Select s) clauses shown) is =
      ap (shows schema base name) is.2
  returning_copy base _ is = absurd is

  ends : (p : Parsed) (formats : List Name) (c : Checked Command)
      → and_then (and_then (and_then c (λ k. Ok (k, None))) (λ found. Ok (formats, found)))
      (λ plan. Ok (with_command p plan))
      ≡ and_then c (λ k. Ok (with_command p (formats, (k, None))))
  ends p formats (Ok k) = refl
  ends p formats (Err e) = refl

  planned_copy : (p : Parsed) → IsCopyOf table source p.statement
      → and_then (planned schema p) (λ plan. Ok (with_command p plan))
      ≡ written_by table p (copied table source place (base_of table p) p.statement)
  unfolding planned meaning
  planned_copy p is =
      let base = base_of table p in
      (λ i. let formats = timed_copy p.formats p.statement is i in
      let base = small p.names + small formats in
      and_then {A = List Name × (Command × Option Returning)} {B = Compiled}
      (and_then {A = Command × Option Returning} {B = List Name × (Command × Option Returning)}
      (and_then {A = Option Returning} {B = Command × Option Returning}
      (returning schema base p.statement) (λ shown. and_then {A = Command}
      {B = Command × Option Returning} (command schema p.formats base p.statement)
      (λ c. Ok (c, shown))))
      (λ found. Ok (formats, found))) (λ plan. Ok (with_command p plan)))
      ∙ (λ i. and_then {A = List Name × (Command × Option Returning)} {B = Compiled}
      (and_then {A = Command × Option Returning} {B = List Name × (Command × Option Returning)}
      (and_then {A = Option Returning} {B = Command × Option Returning}
      (returning_copy base p.statement is i)
      (λ shown. and_then {A = Command} {B = Command × Option Returning}
      (command_copy p.formats base p.statement is i) (λ c. Ok (c, shown))))
      (λ found. Ok (timed (one table) p.formats p.statement, found)))
      (λ plan. Ok (with_command p plan)))
      ∙ ends p (timed (one table) p.formats p.statement)
      (copied table source place base p.statement)

  -- the meaning of a text that copies from the one table into the other
  pub compiled_copy : (text : List ℕ) → Copies table source (first text)
      → compiled schema text ≡ copy table source place (first text)
  unfolding compiled
  compiled_copy text is = by (first text) is
    where
      by : (r : Checked Parsed) → Copies table source r
          → and_then r (λ p. and_then (planned schema p) (λ plan. Ok (with_command p plan)))
          ≡ copy table source place r
      by (Ok p) is = planned_copy p is
      by (Err e) is = absurd is
