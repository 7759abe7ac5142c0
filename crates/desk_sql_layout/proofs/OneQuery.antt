-- A query over one table means in any schema that has the table what it means with that table
-- alone.
use Rattle.std.proofs.Common.{◌≡◌, ℕ, negsuc, Bool, true, false, List, [], ◌∷◌, ◌++◌}
use Rattle.std.proofs.Common.{map, slice_get, Option, Some, None, Ok, Err, refl, ap, sym}
use Rattle.std.proofs.Common.{◌∙◌}
use Rattle.std.specs.Prelude.{◌==◌, ◌&&◌, if◌then◌else◌, ◌^◌, ◌-◌, ◌+◌, nat_le, find}
use Rattle.std.specs.Prelude.{option_map, is_none, not, length, option_and_then}
use Rattle.sqlite_value.specs.declared.value.Value.TheVariants.{Int}
use Rattle.sqlite_value.specs.Order.{Row}
use Rattle.sqlite_value.specs.declared.keys.Key.{Key}
use Rattle.sqlite_ast.specs.declared.Expr.{Expr}
use Rattle.sqlite_ast.specs.declared.Core.{Core, out-Core}
use Rattle.sqlite_ast.specs.declared.Source.{Source, out-Source}
use Rattle.sqlite_ast.specs.declared.Sort.{Sort}
use Rattle.sqlite_ast.specs.declared.Select.{Select, out-Select}
use Rattle.sqlite_ast.specs.declared.Statement.{Statement}
use Rattle.sqlite_ast.specs.declared.Statement.TheVariants as statement
use Rattle.sqlite_syntax.specs.declared.statement.Parsed.{Parsed}
use Rattle.sqlite_ast.specs.declared.Origin.{Origin}
use Rattle.sqlite_ast.specs.declared.Origin.TheVariants as origin
use Rattle.sqlite_sql.specs.Term.{Term, lit}
use Rattle.sqlite_sql.specs.Query.{Query, end, inner}
use Rattle.sqlite_typing.specs.declared.class.Class.{Class}
use Rattle.sqlite_typing.specs.Types.{Slots, accepts_program, accepts_after, filled}
use Rattle.sqlite_typing.specs.Types.{table_classes, row_classes, is_count}
use Rattle.sqlite_schema.specs.declared.schema.Table.{Table}
use Rattle.sqlite_schema.specs.declared.schema.Schema.{Schema}
use Rattle.sqlite_schema.specs.declared.command.Command.{Command}
use Rattle.sqlite_schema.specs.declared.command.Command.TheVariants.{Select as SelectCommand}
use Rattle.sqlite_schema.specs.declared.command.Returning.{Returning}
use Rattle.sqlite_schema.specs.declared.program.Table.{Table as Let}
use Rattle.sqlite_schema.specs.declared.program.Program.{Program}
use Rattle.sqlite_schema.specs.Names.{table_named, view_named}
use Rattle.sqlite_catalog.proofs.StepLemmas.{same_itself}
use Rattle.sqlite_draft.specs.declared.query.Draft.{Draft}
use Rattle.sqlite_draft.specs.Query.{query_of}
use Rattle.sqlite_resolve.specs.declared.body.Body.{Body}
use Rattle.sqlite_resolve.specs.declared.body.Joined.{Joined}
use Rattle.sqlite_resolve.specs.declared.scope.Bound.{Bound}
use Rattle.sqlite_resolve.specs.declared.scope.Output.{Output}
use Rattle.sqlite_resolve.specs.declared.select.Clauses.{Clauses}
use Rattle.sqlite_resolve.specs.declared.state.State.{State}
use Rattle.sqlite_resolve.specs.declared.compiled.Compiled.{Compiled}
use Rattle.sqlite_resolve.specs.declared.error.CompileError.TheVariants.{Mismatch}
use Rattle.sqlite_resolve.specs.Lowering.{Checked, Lowering, ◌>>=◌, and_then, pure, get}
use Rattle.sqlite_resolve.specs.Lowering.{fresh, max_budget, take_slot}
use Rattle.sqlite_resolve.specs.Scope.{Name}
use Rattle.sqlite_resolve.specs.Terms.{number}
use Rattle.sqlite_resolve.specs.Body.{bound, bounds, table_in, table_by, table_or, view_or_none}
use Rattle.sqlite_resolve.specs.Body.{result, matching, body, tests}
use Rattle.sqlite_resolve.specs.Order.{keys, sorts}
use Rattle.sqlite_resolve.specs.Expr.{lower}
use Rattle.sqlite_resolve.specs.Select.{outermost, inside, having, parts, assembled, named, paging}
use Rattle.sqlite_resolve.specs.Select.{constant_or}
use Rattle.sqlite_resolve.specs.Program.{Building, Shown as Answer, query, query_to, level, with}
use Rattle.sqlite_resolve.specs.Program.{with_from, whole, compound, alone, single, sources, source}
use Rattle.sqlite_resolve.specs.Program.{source_by, viewing, or_view, program}
use Rattle.sqlite_resolve.specs.Compile.{first, read, compiled, planned, meaning, timed, returning}
use Rattle.sqlite_resolve.specs.Compile.{command, small, with_command}
use Rattle.desk_sql_layout.proofs.OneTable.{one, bound_at, are_one, source_name, is_table}
use Rattle.desk_sql_layout.proofs.OneTable.{name_in, is_plain_source, plain_source}
use Rattle.desk_sql_layout.proofs.OneTable.{are_simple_shown, is_simple_test, are_simple_sorts}
use Rattle.desk_base.proofs.Bools.{and_left, and_right}
use Rattle.desk_sql_layout.proofs.OneTable.{is_empty, empty_is, none_is}
use Rattle.desk_sql_layout.proofs.OneTable.{here, there, outputs_same, tests_same, sorts_same}
use Rattle.desk_sql_layout.proofs.OneTable.{joins_same}

-- ---- the place of the table

-- the first table has taken slot 1
abbrev pub begun : State
begun = record (fresh 1 max_budget) { next = 2 }

module _ (schema : Schema) (place : ℕ) where
  table_by_is : (o : Origin Select) → is_table o ≡ true → table_named schema (name_in o)
      ≡ Some place → table_by schema 1 o ≡ Ok (name_in o, place)
  table_by_is (origin.Table name) h there = ap
      (λ (x : Option ℕ). and_then {B = Name × ℕ}
      (table_or (view_or_none (view_named schema name)) x) (λ at. Ok (name, at))) there
  table_by_is (origin.Query q) h there = absurd (cc)

  bound_is : (s : Source) → is_plain_source s ≡ true
      → table_named schema (name_in (out-Source s).origin) ≡ Some place
      → bound schema s (fresh 1 max_budget) ≡ Ok
      (bound_at (name_in (out-Source s).origin) place, begun)
  unfolding bound take_slot table_in
  bound_is s h there =
      let plain = plain_source s h in
      λ i. and_then {B = Bound × State} (and_then {B = (Name × ℕ) × State}
      (table_by_is (out-Source s).origin plain.table there i) (λ a. Ok (a, begun)))
      (λ r. Ok (
        record {
          name = Rattle.std.specs.Prelude.unwrap_or
              (plain.alias i) r.0.0;
          table = r.0.1;
          slot = 1;
          shared = plain.using i;
        },
        r.1,
      ))

  pub bounds_is : (from : List Source) → are_one from ≡ true → table_named schema (source_name from)
      ≡ Some place
      → bounds schema from (fresh 1 max_budget) ≡ Ok (bound_at (source_name from) place ∷ [], begun)
  unfolding bounds
  bounds_is [] h there = absurd (cc)
  bounds_is (s ∷ t ∷ more) h there = absurd (cc)
  bounds_is (s ∷ []) h there = ap (λ (r : Checked (Bound × State)). and_then
      {B = List Bound × State} r (λ x. Ok (x.0 ∷ [], x.1))) (bound_is s h there)

-- ---- SELECT with no GROUP BY

abbrev pub is_simple_core : Core → Bool
is_simple_core core =
    are_one (out-Core core).from && (are_simple_shown (out-Core core).shown
    && (is_simple_test (out-Core core).filter
    && (is_empty (out-Core core).group && is_none (out-Core core).having)))

pub record IsSimpleCore (core : Core) : Type 0 where
  pub from : are_one (out-Core core).from ≡ true
  pub shown : are_simple_shown (out-Core core).shown ≡ true
  pub filter : is_simple_test (out-Core core).filter ≡ true
  pub group : (out-Core core).group ≡ []
  pub having : (out-Core core).having ≡ None

pub simple_core : (core : Core) → is_simple_core core ≡ true → IsSimpleCore core
simple_core core h =
    let a = are_one (out-Core core).from in
    let b = are_simple_shown (out-Core core).shown in
    let c = is_simple_test (out-Core core).filter in
    let d = is_empty (out-Core core).group in
    let e = is_none (out-Core core).having in
    let one = and_right a (b && (c && (d && e))) h in
    let two = and_right b (c && (d && e)) one in
    let three = and_right c (d && e) two in
    record {
      from = and_left a (b && (c && (d && e))) h;
      shown = and_left b (c && (d && e)) one;
      filter = and_left c (d && e) two;
      group = empty_is (out-Core core).group (and_left d e three);
      having = none_is (out-Core core).having (and_right d e three);
    }

-- without GROUP BY
abbrev sorted : List Bound → List Output → Joined → State → List (Term × Key) → Clauses
sorted tables columns joined s by = record {
  body = record {
    level = record { tables = tables; shown = columns };
    steps = joined.steps;
    filter
        = joined.filter;
  };
  is_grouped = not (0 == 0 && length s.aggregates == 0);
  keys = [];
  collations = [];
  having = [];
  order = by;
}

module _ (core : Core) (order : List Sort) (page : Term × Term) where
  -- what follows the tables of FROM
  abbrev finishing : Clauses → State → Checked Answer
  finishing p s = and_then (assembled (out-Core core).distinct page.0 page.1 p s)
      (λ d. Ok (
        d,
        map (λ (o : Output). o.name) p.body.level.shown,
        map
            (λ (o : Output). o.carried.collation) p.body.level.shown,
      ))

  abbrev body_of : List Bound → List Output → Joined → Body
  body_of tables columns joined = record {
    level = record { tables = tables; shown = columns };
    steps = joined.steps;
    filter = joined.filter;
  }

  abbrev clauses : Schema → Body → List Expr → Option Expr → Lowering Clauses
  clauses schema whole group kept =
      get >>= (λ so_far.
      keys lower (inside schema whole.level false) whole.level.shown group >>= (λ by.
      having (inside schema whole.level (not (length group == 0 && length so_far.aggregates == 0)))
      kept >>= (λ h.
      sorts lower (inside schema whole.level (not
      (length group == 0 && length so_far.aggregates == 0))) whole.level.shown order >>= (λ o.
      pure (record {
        body = whole;
        is_grouped = not (length group == 0 && length so_far.aggregates == 0);
        keys = by.0;
        collations = by.1;
        having = h;
        order = o;
      })))))

  abbrev after_columns : Schema → List Bound → List Output → State → Checked Answer
  after_columns schema tables columns s =
      and_then (matching lower (outermost schema)
      (record { tables = tables; shown = columns }) core s) (λ j.
      and_then (clauses schema (body_of tables columns j.0) (out-Core core).group
      (out-Core core).having j.1) (λ r. finishing r.0 r.1))

  abbrev after_tables : Schema → List Bound → State → Checked Answer
  after_tables schema tables s =
      and_then (result lower (outermost schema) (record { tables = tables; shown = [] }) core s)
      (λ c. after_columns schema tables c.0 c.1)

  abbrev rest : Schema → Body × State → Checked (Clauses × State)
  rest schema w = clauses schema w.0 (out-Core core).group (out-Core core).having w.1

  abbrev end_of : Clauses × State → Checked Answer
  end_of r = finishing r.0 r.1

  abbrev matched : List Bound → List Output → Joined × State → Checked (Body × State)
  matched tables columns j = Ok (body_of tables columns j.0, j.1)

  third : (schema : Schema) (tables : List Bound) (columns : List Output)
      (r : Checked (Joined × State))
      → and_then (and_then (and_then r (matched tables columns)) (rest schema)) end_of
      ≡ and_then r (λ j. and_then (clauses schema (body_of tables columns j.0) (out-Core core).group
      (out-Core core).having j.1) (λ r. finishing r.0 r.1))
  third schema tables columns (Ok j) = refl
  third schema tables columns (Err e) = refl

  abbrev within_columns : Schema → List Bound → List Output × State → Checked (Body × State)
  within_columns schema tables c = and_then (matching lower (outermost schema)
      (record { tables = tables; shown = c.0 }) core c.1) (matched tables c.0)

  second : (schema : Schema) (tables : List Bound) (r : Checked (List Output × State))
      → and_then (and_then (and_then r (within_columns schema tables)) (rest schema)) end_of
      ≡ and_then r (λ c. after_columns schema tables c.0 c.1)
  second schema tables (Ok c) = third schema tables c.0
      (matching lower (outermost schema) (record { tables = tables; shown = c.0 }) core c.1)
  second schema tables (Err e) = refl

  opening : (schema : Schema) (r : Checked (List Bound × State))
      → and_then (and_then (and_then r (λ t. and_then
      (result lower (outermost schema) (record { tables = t.0; shown = [] }) core t.1)
      (within_columns schema t.0))) (rest schema)) end_of
      ≡ and_then r (λ b. after_tables schema b.0 b.1)
  opening schema (Ok t) = second schema t.0 (result lower (outermost schema)
      (record { tables = t.0; shown = [] }) core t.1)
  opening schema (Err e) = refl

  in_steps : (schema : Schema) → named schema core order page
      ≡ and_then (bounds schema (out-Core core).from (fresh 1 max_budget))
      (λ b. after_tables schema b.0 b.1)
  unfolding named parts body
  in_steps schema = opening schema (bounds schema (out-Core core).from (fresh 1 max_budget))

  abbrev sorted_as : List Bound → List Output → Joined → State → List (Term × Key) × State
      → Checked (Clauses × State)
  sorted_as tables columns j s o = Ok (sorted tables columns j s o.0, o.1)

  -- what is shown doesn't hang on the place of the table
  closed : (x y : Bound) (columns : List Output) (j : Joined) (s : State)
      (r : Checked (List (Term × Key) × State))
      → and_then (and_then r (sorted_as (x ∷ []) columns j s)) end_of
      ≡ and_then (and_then r (sorted_as (y ∷ []) columns j s)) end_of
  unfolding assembled
  closed x y columns j s (Ok o) = refl
  closed x y columns j s (Err e) = refl

  module _ (schema : Schema) (place : ℕ) (table : Table)
      (listed : slice_get schema.tables place ≡ Some table)
      (simple : IsSimpleCore core) (sorted_by : are_simple_sorts order ≡ true) where
    abbrev name : Name
    name = source_name (out-Core core).from

    abbrev tables_here : List Bound
    tables_here = bound_at name place ∷ []

    abbrev tables_there : List Bound
    tables_there = bound_at name 0 ∷ []

    tail_same : (columns : List Output) (j : Joined) (s : State)
        → and_then (clauses schema (body_of tables_here columns j) [] None s) end_of
        ≡ and_then (clauses (one table) (body_of tables_there columns j) [] None s) end_of
    unfolding keys having tests
    tail_same columns j s =
        let grouped = not (0 == 0 && length s.aggregates == 0) in
        ap (λ (r : Checked (List (Term × Key) × State)). and_then
        (and_then r (sorted_as tables_here columns j s)) end_of)
        (λ i. sorts_same schema place table listed name columns grouped columns order sorted_by i s)
        ∙ closed (bound_at name place) (bound_at name 0) columns j s
        (sorts lower (there schema place table listed name columns grouped) columns order s)

    matching_same : (columns : List Output)
        → matching lower (outermost schema) (record { tables = tables_here; shown = columns }) core
        ≡ matching lower (outermost (one table))
        (record { tables = tables_there; shown = columns }) core
    unfolding matching
    matching_same columns = λ i. joins_same schema place table listed name columns false
        (out-Core core).from simple.from i >>= (λ joined.
        tests_same schema place table listed name columns false joined.filter
        (out-Core core).filter simple.filter i >>=
        (λ filter. pure (record joined { filter = filter })))

    columns_same : (columns : List Output) (s : State) → after_columns schema tables_here columns s
        ≡ after_columns (one table) tables_there columns s
    columns_same columns s =
        (λ i. and_then (matching lower (outermost schema)
        (record { tables = tables_here; shown = columns }) core s) (λ j.
        and_then (clauses schema (body_of tables_here columns j.0) (simple.group i)
        (simple.having i) j.1) end_of))
        ∙ (λ i. and_then (matching_same columns i s) (λ j. tail_same columns j.0 j.1 i))
        ∙ sym (λ i. and_then (matching lower (outermost (one table))
        (record { tables = tables_there; shown = columns }) core s) (λ j.
        and_then (clauses (one table) (body_of tables_there columns j.0) (simple.group i)
        (simple.having i) j.1) end_of))

    tables_same : (s : State) → after_tables schema tables_here s
        ≡ after_tables (one table) tables_there s
    unfolding result
    tables_same s = λ i. and_then (outputs_same schema place table listed name [] true
        (out-Core core).shown simple.shown i s) (λ c. columns_same c.0 c.1 i)

    pub named_same : table_named schema name ≡ Some place → table_named (one table) name ≡ Some 0
        → named schema core order page ≡ named (one table) core order page
    named_same here there =
        in_steps schema
        ∙ ap (λ (r : Checked (List Bound × State)). and_then r (λ b. after_tables schema b.0 b.1))
        (bounds_is schema place (out-Core core).from simple.from here)
        ∙ tables_same begun
        ∙ sym (ap (λ (r : Checked (List Bound × State)). and_then r
        (λ b. after_tables (one table) b.0 b.1))
        (bounds_is (one table) 0 (out-Core core).from simple.from there))
        ∙ sym (in_steps (one table))

-- ---- the query of a text

abbrev pub unpaged : Term × Term
unpaged = (lit (Int (negsuc 0)), number 0)

-- one SELECT with neither WITH nor LIMIT
abbrev pub is_simple_select : Select → Bool
is_simple_select s =
    is_empty (out-Select s).with && (is_empty (out-Select s).others
    && (is_none (out-Select s).limit && (is_none (out-Select s).offset
    && (are_simple_sorts (out-Select s).order && is_simple_core (out-Select s).first))))

pub record IsSimpleSelect (s : Select) : Type 0 where
  pub with_none : (out-Select s).with ≡ []
  pub others : (out-Select s).others ≡ []
  pub limit : (out-Select s).limit ≡ None
  pub offset : (out-Select s).offset ≡ None
  pub order : are_simple_sorts (out-Select s).order ≡ true
  pub core : IsSimpleCore (out-Select s).first

pub simple_select : (s : Select) → is_simple_select s ≡ true → IsSimpleSelect s
simple_select s h =
    let a = is_empty (out-Select s).with in
    let b = is_empty (out-Select s).others in
    let c = is_none (out-Select s).limit in
    let d = is_none (out-Select s).offset in
    let e = are_simple_sorts (out-Select s).order in
    let f = is_simple_core (out-Select s).first in
    let one = and_right a (b && (c && (d && (e && f)))) h in
    let two = and_right b (c && (d && (e && f))) one in
    let three = and_right c (d && (e && f)) two in
    let four = and_right d (e && f) three in
    record {
      with_none = empty_is (out-Select s).with (and_left a (b && (c && (d && (e && f)))) h);
      others = empty_is (out-Select s).others (and_left b (c && (d && (e && f))) one);
      limit = none_is (out-Select s).limit (and_left c (d && (e && f)) two);
      offset = none_is (out-Select s).offset (and_left d (e && f) three);
      order = and_left e f four;
      core = simple_core (out-Select s).first (and_right e f four);
    }

module _ (schema : Schema) (below : Schema → Select → Building Answer) where
  sources_is : (from : List Source) → are_one from ≡ true → sources below schema from []
      ≡ Ok (schema, [])
  unfolding sources source
  sources_is [] h = absurd (cc)
  sources_is (s ∷ t ∷ more) h = absurd (cc)
  sources_is (s ∷ []) h = by (out-Source s).origin (plain_source s h).table
    where
      by : (o : Origin Select) → is_table o ≡ true
          → and_then {A = Schema × List Let} {B = Schema × List Let}
          (source_by below schema schema 1 o []) (λ r. Ok (r.0, r.1)) ≡ Ok (schema, [])
      by (origin.Table table) h = refl
      by (origin.Query q) h = absurd (cc)

  alone_is : (core : Core) (order : List Sort) (x : Answer) → are_one (out-Core core).from ≡ true
      → named schema core order unpaged ≡ Ok x → alone below schema core order unpaged []
      ≡ Ok (x, [])
  unfolding alone single viewing
  alone_is core order x from shown =
      (λ i. and_then {A = (Answer × Schema) × List Let} {B = Answer × List Let}
      (and_then (sources_is (out-Core core).from from i)
      (λ r. viewing below schema core order unpaged 64 r.0 r.1)) (λ r. Ok (r.0.0, r.1)))
      ∙ (λ i. and_then {A = (Answer × Schema) × List Let} {B = Answer × List Let}
      (or_view below (viewing below schema core order unpaged 63) schema schema (shown i) [])
      (λ r. Ok (r.0.0, r.1)))

  whole_is : (s : Select) → IsSimpleSelect s → (x : Answer)
      → named schema (out-Select s).first (out-Select s).order unpaged ≡ Ok x
      → level below schema s [] ≡ Ok (x, [])
  unfolding level with whole paging constant_or
  whole_is s simple x shown =
      (λ i. and_then (with_from below schema (simple.with_none i) []) (λ r. whole below r.0 s r.1))
      ∙ (λ i. and_then {A = (Term × Term) × List Let} {B = Answer × List Let}
      (and_then {A = Term × Term} {B = (Term × Term) × List Let}
      (and_then {B = Term × Term} (constant_or schema (lit (Int (negsuc 0))) (simple.limit i))
      (λ limit. and_then {B = Term × Term} (constant_or schema (number 0) (simple.offset i))
      (λ offset. Ok (limit, offset)))) (λ p. Ok (p, [])))
      (λ (r : (Term × Term) × List Let). (if length (simple.others i) == 0 then alone below schema
      (out-Select s).first (out-Select s).order r.0 else compound below schema s r.0) r.1))
      ∙ alone_is (out-Select s).first (out-Select s).order x simple.core.from shown

pub query_is : (schema : Schema) (s : Select) → IsSimpleSelect s → (x : Answer)
    → named schema (out-Select s).first (out-Select s).order unpaged ≡ Ok x
    → query schema s ≡ Ok (x, [])
unfolding query query_to
query_is schema s simple x shown = whole_is schema (query_to 15) s simple x shown

-- ---- its types

-- the query of this table has types, with these values
abbrev pub is_typed : Table → Query → Row → Bool
is_typed table q params = accepts_after params q (Some (row_classes table ∷ []))
    && (is_count params q.limit && is_count params q.offset)

-- the schema has the table in a stored tree of its own
pub record Has (schema : Schema) (place : ℕ) (table : Table) : Type 0 where
  pub named : table_named schema table.name ≡ Some place
  pub listed : slice_get schema.tables place ≡ Some table
  pub found : find (λ t. t.tree == table.tree) schema.tables ≡ Some table
  pub low : nat_le (2 ^ 31) table.tree ≡ false

abbrev pub typed_program : Table → Draft → Checked Program
typed_program table d = if is_typed table (query_of d) [] then Ok
    (record { lets = []; body = query_of d }) else Err Mismatch

module _ (schema : Schema) (place : ℕ) (table : Table) (has : Has schema place table) where
  classes_are : (given : Slots) → table_classes schema given table.tree ≡ Some (row_classes table)
  classes_are given =
      (λ i. if has.low i then slice_get given (table.tree - 2 ^ 31) else option_map row_classes
      (find (λ t. t.tree == table.tree) schema.tables))
      ∙ ap (option_map row_classes) has.found

  pub accepts_are : (q : Query) (params : Row) → q.from ≡ inner table.tree end
      → accepts_program schema [] q params ≡ is_typed table q params
  accepts_are q params from =
      let filling = λ (row : Option (List Class)). option_and_then {T = Slots} {U = Slots}
      (λ x. Some x) (option_map (λ row. [] ++ row ∷ []) row) in
      (λ i. accepts_after params q (filled schema [] params (from i) [])
      && (is_count params q.limit && is_count params q.offset))
      ∙ (λ i. accepts_after params q (filling (classes_are [] i))
      && (is_count params q.limit && is_count params q.offset))

  pub program_is : (d : Draft) → (query_of d).from ≡ inner table.tree end → program schema [] d
      ≡ typed_program table d
  unfolding program
  program_is d from = ap (λ b. if b then Ok (record { lets = []; body = query_of d }) else Err
      Mismatch) (accepts_are (query_of d) [] from)

-- ---- the command

-- the query reads this tree alone
abbrev pub Scans : ℕ → Checked Answer → Type 0
Scans tree (Ok x) = (query_of x.0).from ≡ inner tree end
Scans tree (Err e) = ⊥

abbrev pub IsOneSelect : Table → Select → Type 0
IsOneSelect table s =
    (is_simple_select s ≡ true) × (source_name (out-Core (out-Select s).first).from ≡ table.name)
    × Scans table.tree (named (one table) (out-Select s).first (out-Select s).order unpaged)

pub itself_named : (table : Table) → table_named (one table) table.name ≡ Some 0
itself_named table = ap (λ b. if b then Some 0 else None) (same_itself table.name)

abbrev pub command_by : Table → Checked Answer → Checked Command
command_by table r = and_then r (λ x. and_then (typed_program table x.0)
    (λ p. Ok (SelectCommand p x.1)))

-- what a SELECT means with the table alone
abbrev pub selected : Table → Statement → Checked Command
selected table (statement.Select s) = command_by table
    (named (one table) (out-Select s).first (out-Select s).order unpaged)
selected table _ = Err Mismatch

abbrev pub meant_by : Parsed → Checked Command → Checked Compiled
meant_by p c = and_then c (λ k. Ok (with_command p (p.formats, (k, None))))

-- what a text means, that is a SELECT, with the table alone
abbrev pub meant : Table → Checked Parsed → Checked Compiled
meant table r = and_then r (λ p. meant_by p (selected table p.statement))

-- the statement is a SELECT of the table alone
abbrev pub IsSelectOf : Table → Statement → Type 0
IsSelectOf table (statement.Select s) = IsOneSelect table s
IsSelectOf table _ = ⊥

abbrev pub SelectsFrom : Table → Checked Parsed → Type 0
SelectsFrom table (Ok p) = IsSelectOf table p.statement
SelectsFrom table (Err e) = ⊥

module _ (schema : Schema) (place : ℕ) (table : Table) (has : Has schema place table) where
  read_is : (s : Select) → IsOneSelect table s → read schema s ≡ selected table (statement.Select s)
  unfolding read
  read_is s is =
      let simple = simple_select s is.0 in
      let core = (out-Select s).first in
      let order = (out-Select s).order in
      let same : named schema core order unpaged ≡ named (one table) core order unpaged =
      named_same core order unpaged schema place table has.listed simple.core simple.order
      (ap (table_named schema) is.1 ∙ has.named)
      (ap (table_named (one table)) is.1 ∙ itself_named table) in
      by simple same (named (one table) core order unpaged) refl is.2
    where
      by : IsSimpleSelect s → named schema (out-Select s).first (out-Select s).order unpaged
          ≡ named (one table) (out-Select s).first (out-Select s).order unpaged
          → (r : Checked Answer) → named (one table) (out-Select s).first
          (out-Select s).order unpaged ≡ r → Scans table.tree r
          → read schema s ≡ selected table (statement.Select s)
      by simple same (Ok x) known scans =
          (λ i. and_then {A = Answer × List Let} {B = Command}
          (query_is schema s simple x (same ∙ known) i)
          (λ q. and_then {A = Program} {B = Command} (program schema q.1 q.0.0)
          (λ p. Ok (SelectCommand p q.0.1))))
          ∙ (λ i. and_then {A = Program} {B = Command}
          (program_is schema place table has x.0 scans i) (λ p. Ok (SelectCommand p x.1)))
          ∙ sym (ap (command_by table) known)
      by simple same (Err e) known scans = absurd scans

  command_same : (formats : List Name) (base : ℕ) (s : Statement) → IsSelectOf table s
      → command schema formats base s ≡ selected table s
  unfolding command
  command_same formats base (statement.Select s) is = read_is s is
  command_same formats base _ is = absurd is

  returning_same : (base : ℕ) (s : Statement) → IsSelectOf table s → returning schema base s
      ≡ Ok None
  unfolding returning
  returning_same base (statement.Select s) is = refl
  returning_same base _ is = absurd is

  timed_same : (formats : List Name) (s : Statement) → IsSelectOf table s → timed schema formats s
      ≡ formats
  unfolding timed
  timed_same formats (statement.Select s) is = refl
  timed_same formats _ is = absurd is

  ending : (p : Parsed) (c : Checked Command)
      → and_then (and_then (and_then c (λ k. Ok (k, None))) (λ found. Ok (p.formats, found)))
      (λ plan. Ok (with_command p plan)) ≡ meant_by p c
  ending p (Ok k) = refl
  ending p (Err e) = refl

  planned_same : (p : Parsed) → IsSelectOf table p.statement
      → and_then (planned schema p) (λ plan. Ok (with_command p plan))
      ≡ meant_by p (selected table p.statement)
  unfolding planned meaning
  planned_same p is =
      (λ i. let formats = timed_same p.formats p.statement is i in
      let base = small p.names + small formats in
      and_then {A = List Name × (Command × Option Returning)} {B = Compiled}
      (and_then {A = Command × Option Returning} {B = List Name × (Command × Option Returning)}
      (and_then {A = Option Returning} {B = Command × Option Returning}
      (returning_same base p.statement is i)
      (λ shown. and_then {A = Command} {B = Command × Option Returning}
      (command_same p.formats base p.statement is i) (λ c. Ok (c, shown))))
      (λ found. Ok (formats, found))) (λ plan. Ok (with_command p plan)))
      ∙ ending p (selected table p.statement)

  -- the meaning of a text that selects from the table
  pub compiled_same : (text : List ℕ) → SelectsFrom table (first text) → compiled schema text
      ≡ meant table (first text)
  unfolding compiled
  compiled_same text is = by (first text) is
    where
      by : (r : Checked Parsed) → SelectsFrom table r
          → and_then r (λ p. and_then (planned schema p) (λ plan. Ok (with_command p plan)))
          ≡ meant table r
      by (Ok p) is = planned_same p is
      by (Err e) is = absurd is
