-- An expression over the columns of one table means in any schema that has the table what it means
-- with that table alone.
use Rattle.std.proofs.Common.{◌≡◌, ℕ, zero, suc, Bool, true, false, List, [], ◌∷◌, ◌++◌, slice_get}
use Rattle.std.proofs.Common.{Option, Some, None, Ok, Err, refl, ap, ap₂, sym, ◌∙◌}
use Rattle.std.specs.Prelude.{◌==◌, ◌&&◌, ◌||◌, if◌then◌else◌, ◌^◌, nat_lt, option_map}
use Rattle.std.specs.Prelude.{option_and_then, unwrap_or, is_some, is_none, not, length, codes}
use Rattle.sqlite_value.specs.declared.keys.Collation.{Collation}
use Rattle.sqlite_ast.specs.Layer.{Layer, ShownLayer}
use Rattle.sqlite_ast.specs.declared.Expr.{Expr, out-Expr}
use Rattle.sqlite_ast.specs.declared.Expr.TheOpen.{Expr-F, Shown-F}
use Rattle.sqlite_ast.specs.declared.Shown.{Shown, out-Shown}
use Rattle.sqlite_ast.specs.declared.Sort.{Sort, out-Sort}
use Rattle.sqlite_ast.specs.declared.Source.{Source, out-Source}
use Rattle.sqlite_ast.specs.declared.Select.{Select}
use Rattle.sqlite_ast.specs.declared.Origin.{Origin}
use Rattle.sqlite_ast.specs.declared.Origin.TheVariants as origin
use Rattle.sqlite_ast.specs.declared.Unary.TheVariants as unary
use Rattle.sqlite_ast.specs.declared.Binary.{Binary}
use Rattle.sqlite_ast.specs.declared.Binary.TheVariants as binary
use Rattle.sqlite_sql.specs.declared.ops.BinaryOp.{BinaryOp}
use Rattle.sqlite_sql.specs.Term.{Term, lit, col, op1, op2, case, reads_below}
use Rattle.sqlite_value.specs.declared.keys.Key.{Key}
use Rattle.sqlite_schema.specs.declared.schema.Column.{Column as ColumnOf}
use Rattle.sqlite_schema.specs.declared.schema.Table.{Table}
use Rattle.sqlite_schema.specs.declared.schema.Schema.{Schema}
use Rattle.sqlite_schema.specs.Names.{column_named, place_of}
use Rattle.sqlite_resolve.specs.declared.compare.Affinity.TheVariants as affinity
use Rattle.sqlite_resolve.specs.declared.error.CompileError.TheVariants.{NoSuchTable, NoSuchColumn}
use Rattle.sqlite_resolve.specs.declared.error.CompileError.TheVariants.{Misuse, Unsupported}
use Rattle.sqlite_resolve.specs.declared.scope.Bound.{Bound}
use Rattle.sqlite_resolve.specs.declared.scope.Level.{Level}
use Rattle.sqlite_resolve.specs.declared.scope.Found.{Found}
use Rattle.sqlite_resolve.specs.declared.scope.Found.TheVariants.{Column, Rowid, Alias}
use Rattle.sqlite_resolve.specs.declared.scope.Output.{Output}
use Rattle.sqlite_resolve.specs.declared.state.Carried.{Carried}
use Rattle.sqlite_resolve.specs.Lowering.{Checked, Lowering, ◌>>=◌, ◌>>◌, and_then, or_else}
use Rattle.sqlite_resolve.specs.Lowering.{lift, pure, last, begin, spend, finish, chosen, carry}
use Rattle.sqlite_resolve.specs.Lowering.{fail}
use Rattle.sqlite_resolve.specs.Scope.{Name, Context, is_rowid, is_among, column_in, rowid_in, hit}
use Rattle.sqlite_resolve.specs.Scope.{at_most_one, only, in_level, find, found_or, alias_of}
use Rattle.sqlite_resolve.specs.Scope.{column, column_at, declared, term_of, shown_again}
use Rattle.sqlite_resolve.specs.Compare.{of_declared, at_place, of_column, affinity_of}
use Rattle.sqlite_resolve.specs.Compare.{bare, unbound, converted, compared}
use Rattle.sqlite_resolve.specs.Expr.{combine, passes, prefixed, both, tests_truth, tests_alias}
use Rattle.sqlite_resolve.specs.Expr.{wanted_truth, operation, opened, node, node_at, lower_to}
use Rattle.sqlite_resolve.specs.Expr.{lower}
use Rattle.sqlite_resolve.specs.Terms.{conjuncts}
use Rattle.sqlite_resolve.specs.declared.body.Joined.{Joined}
use Rattle.sqlite_resolve.specs.Body.{table_at, found_name, heading_at, heading, is_column}
use Rattle.sqlite_resolve.specs.Body.{shown_at, outputs_from, outputs, tests, joins, join, shared}
use Rattle.sqlite_resolve.specs.Body.{left_join, inner_join, declared as declared_name}
use Rattle.sqlite_resolve.specs.Order.{peeled, alias_in, collation_of, placed, place_in, is_numeral}
use Rattle.sqlite_resolve.specs.Order.{key, aliased_or, sort, sorts_from, sorts}
use Rattle.sqlite_resolve.specs.Select.{inside}
use Rattle.desk_base.proofs.Bools.{and_left, and_right}

-- ---- the expressions of the desk's statements: columns by their names, parameters, numbers, `+`,
-- AND and comparisons

abbrev pub is_simple_op : Binary → Bool
is_simple_op binary.And = true
is_simple_op binary.Eq = true
is_simple_op binary.Ge = true
is_simple_op binary.Le = true
is_simple_op _ = false

abbrev pub is_simple_at : (Expr → Bool) → Layer → Bool
is_simple_at below (Expr-F.Integer text) = true
is_simple_at below (Expr-F.Parameter n) = true
is_simple_at below (Expr-F.Column None name) = true
is_simple_at below (Expr-F.Unary unary.Plus e) = below e
is_simple_at below (Expr-F.Binary op a b) = is_simple_op op && (below a && below b)
is_simple_at below _ = false

abbrev pub is_simple_to : ℕ → Expr → Bool
is_simple_to zero e = false
is_simple_to (suc depth) e = is_simple_at (is_simple_to depth) (out-Expr e)

abbrev pub is_simple : Expr → Bool
is_simple = is_simple_to 700

abbrev pub is_simple_shown_at : ShownLayer → Bool
is_simple_shown_at (Shown-F.One e alias text) = is_simple e
is_simple_shown_at _ = false

abbrev pub are_simple_shown : List Shown → Bool
are_simple_shown [] = true
are_simple_shown (s ∷ more) = is_simple_shown_at (out-Shown s) && are_simple_shown more

abbrev pub is_simple_test : Option Expr → Bool
is_simple_test None = true
is_simple_test (Some e) = is_simple e

abbrev pub is_simple_sort : Sort → Bool
is_simple_sort s = is_simple (peeled (out-Sort s).key)

abbrev pub are_simple_sorts : List Sort → Bool
are_simple_sorts [] = true
are_simple_sorts (s ∷ more) = is_simple_sort s && are_simple_sorts more

abbrev pub is_empty : {A : Type 0} → List A → Bool
is_empty [] = true
is_empty (x ∷ xs) = false

pub empty_is : {A : Type 0} (l : List A) → is_empty l ≡ true → l ≡ []
empty_is [] h = refl
empty_is (x ∷ xs) h = absurd (cc)

pub none_is : {A : Type 0} (o : Option A) → is_none o ≡ true → o ≡ None
none_is None h = refl
none_is (Some x) h = absurd (cc)

pub not_is : (b : Bool) → not b ≡ true → b ≡ false
not_is false h = refl
not_is true h = absurd (cc)

-- a table by its name, and nothing more
abbrev pub is_table : Origin Select → Bool
is_table (origin.Table name) = true
is_table (origin.Query q) = false

abbrev pub name_in : Origin Select → Name
name_in (origin.Table name) = name
name_in (origin.Query q) = []

abbrev pub is_plain_source : Source → Bool
is_plain_source s = is_table (out-Source s).origin
    && (is_none (out-Source s).alias && (is_none (out-Source s).on
    && (is_empty (out-Source s).using && not (out-Source s).is_left)))

abbrev pub are_one : List Source → Bool
are_one [] = false
are_one (s ∷ []) = is_plain_source s
are_one (s ∷ t ∷ more) = false

abbrev pub source_name : List Source → Name
source_name [] = []
source_name (s ∷ more) = name_in (out-Source s).origin

pub record IsPlainSource (s : Source) : Type 0 where
  pub table : is_table (out-Source s).origin ≡ true
  pub alias : (out-Source s).alias ≡ None
  pub on : (out-Source s).on ≡ None
  pub using : (out-Source s).using ≡ []
  pub left : (out-Source s).is_left ≡ false

pub plain_source : (s : Source) → is_plain_source s ≡ true → IsPlainSource s
plain_source s h =
    let a = is_table (out-Source s).origin in
    let b = is_none (out-Source s).alias in
    let c = is_none (out-Source s).on in
    let d = is_empty (out-Source s).using in
    let e = not (out-Source s).is_left in
    let one = and_right a (b && (c && (d && e))) h in
    let two = and_right b (c && (d && e)) one in
    let three = and_right c (d && e) two in
    record {
      table = and_left a (b && (c && (d && e))) h;
      alias = none_is (out-Source s).alias (and_left b (c && (d && e)) one);
      on = none_is (out-Source s).on (and_left c (d && e) two);
      using = empty_is (out-Source s).using (and_left d e three);
      left = not_is (out-Source s).is_left (and_right d e three);
    }

-- ---- a schema that has the table at a place

abbrev pub one : Table → Schema
one table = record { tables = table ∷ []; indexes = []; views = [] }

-- the table in slot 1, by the name in the text
abbrev pub bound_at : Name → ℕ → Bound
bound_at name place = record { name = name; table = place; slot = 1; shared = [] }

abbrev pub level_at : Name → ℕ → List Output → Level
level_at name place shown = record { tables = bound_at name place ∷ []; shown = shown }

module _ (schema : Schema) (place : ℕ) (table : Table)
    (listed : slice_get schema.tables place ≡ Some table) (named : Name) (shown : List Output)
    (aggregates : Bool) where
  abbrev pub here : Context
  here = inside schema (level_at named place shown) aggregates

  abbrev pub there : Context
  there = inside (one table) (level_at named 0 shown) aggregates

  -- ---- comparisons

  at_place_same : (at : ℕ) → at_place schema place at ≡ at_place (one table) 0 at
  at_place_same zero = refl
  at_place_same (suc at) = ap (λ o. unwrap_or (option_map of_declared
      (option_and_then (λ t. slice_get t.columns at) o)) affinity.None) listed

  affinity_same : (t : Term) → affinity_of here t ≡ affinity_of there t
  unfolding affinity_of of_column
  affinity_same (lit v) = refl
  affinity_same (col slot at) = ap (λ a. if slot == 0 && at == 0 then affinity.None else a)
      (by (1 == slot))
    where
      by : (is : Bool) → unwrap_or (option_map (λ table. at_place schema table at)
          (Rattle.sqlite_resolve.specs.Compare.or_else
          (option_map (λ (b : Bound). b.table) (if is then Some (bound_at named place) else None))
          None)) affinity.None
          ≡ unwrap_or (option_map (λ t. at_place (one table) t at)
          (Rattle.sqlite_resolve.specs.Compare.or_else
          (option_map (λ (b : Bound). b.table) (if is then Some (bound_at named 0) else None))
          None)) affinity.None
      by true = at_place_same at
      by false = refl
  affinity_same (op1 op a) = refl
  affinity_same (op2 op a b) = refl
  affinity_same (case t a b) = refl

  compared_same : (op : BinaryOp) (a b : Term) → compared here op a b ≡ compared there op a b
  unfolding compared
  compared_same op a b = ap₂ (λ x y. op2 op (converted x y a) (converted y x b)) (affinity_same a)
      (affinity_same b)

  unbound_same : (t : Term) → unbound here t ≡ unbound there t
  unfolding unbound
  unbound_same t = ap (λ x. bare x t) (affinity_same t)

  combine_same : (op : Binary) → is_simple_op op ≡ true → (how : Collation) (a b : Term)
      → combine here op how a b ≡ combine there op how a b
  unfolding combine
  combine_same binary.And h how a b = refl
  combine_same binary.Eq h how a b = ap pure (compared_same _ a b)
  combine_same binary.Ge h how a b = ap pure (compared_same _ a b)
  combine_same binary.Le h how a b = ap pure (compared_same _ a b)
  combine_same _ h how a b = absurd (cc)

  -- ---- columns

  -- what a name stands for, with the table at a place
  abbrev pub found : ℕ → Option ℕ → Bool → Bool → Option ℕ → Checked Found
  found at column is_row stored alias =
      and_then (and_then (and_then (at_most_one None (option_map (Column 1 at) column)) (λ f. Ok f))
      (λ column.
      if is_some column then Ok column else
      and_then (if is_row then and_then (at_most_one None
      (if stored then Some (Rowid 1 at) else None)) (λ f. Ok f) else Ok None) (λ rowid.
      if is_some rowid || false then Ok rowid else Ok (option_map (Alias 0) alias))))
      (found_or (Err NoSuchColumn))

  abbrev pub found_at : ℕ → Name → Checked Found
  found_at at name = found at (column_named table name) (is_rowid name) (nat_lt table.tree (2 ^ 31))
      (alias_of name shown)

  find_here : (name : Name) → find here None name ≡ found_at place name
  unfolding find hit is_among only column_in rowid_in in_level
  find_here name = ap (λ o.
      and_then (and_then (and_then (at_most_one None
      (option_map (Column 1 place) (option_and_then (λ t. column_named t name) o))) (λ f. Ok f))
      (λ column.
      if is_some column then Ok column else
      and_then (if is_rowid name then and_then
      (at_most_one None (option_and_then (λ (t : Table). if nat_lt t.tree (2 ^ 31) then Some
      (Rowid 1 place) else None) o)) (λ f. Ok f) else Ok None) (λ rowid.
      if is_some rowid || false then Ok rowid else Ok
      (option_map (Alias 0) (alias_of name shown))))) (found_or (Err NoSuchColumn))) listed

  find_there : (name : Name) → find there None name ≡ found_at 0 name
  unfolding find hit is_among only column_in rowid_in in_level
  find_there name = refl

  meaning_same : (column : Option ℕ) (is_row stored : Bool) (alias : Option ℕ)
      → (lift (found place column is_row stored alias) >>= term_of here)
      ≡ (lift (found 0 column is_row stored alias) >>= term_of there)
  unfolding term_of column_at
  meaning_same (Some k) is_row stored alias = ap
      (λ (o : Option Table). ◌>>=◌ {A = Term × Carried} {B = Term}
      (lift (or_else (option_and_then (λ t. option_map (λ c. (col 1 (place_of t k), declared t k c))
      (slice_get t.columns k)) o) NoSuchColumn)) (λ found. carry found.1 >> pure found.0)) listed
  meaning_same None true true alias = refl
  meaning_same None true false (Some k) = refl
  meaning_same None true false None = refl
  meaning_same None false stored (Some k) = refl
  meaning_same None false stored None = refl

  column_same : (name : Name) → column here None name ≡ column there None name
  unfolding column
  column_same name = ap (λ f. lift f >>= term_of here) (find_here name)
      ∙ meaning_same (column_named table name) (is_rowid name) (nat_lt table.tree (2 ^ 31))
      (alias_of name shown)
      ∙ ap (λ f. lift f >>= term_of there) (sym (find_there name))

  -- ---- terms

  both_same : (op : Binary) → is_simple_op op ≡ true → (x y x' y' : Lowering Term) → x ≡ x' → y ≡ y'
      → (x >>= (λ a. last >>= (λ p. y >>= (λ b. last >>= (λ q. combine here op (chosen p q) a b)))))
      ≡ (x' >>= (λ a. last >>= (λ p. y' >>= (λ b. last >>=
      (λ q. combine there op (chosen p q) a b)))))
  both_same op h x y x' y' one two = λ i. one i >>=
      (λ a. last >>= (λ p. two i >>= (λ b. last >>= (λ q. combine_same op h (chosen p q) a b i))))

  operation_same : (depth : ℕ) (op : Binary) (a b : Expr) → is_simple_op op ≡ true
      → lower_to depth here a ≡ lower_to depth there a → lower_to depth here b
      ≡ lower_to depth there b
      → operation (lower_to depth) here op a b ≡ operation (lower_to depth) there op a b
  unfolding operation wanted_truth both tests_truth tests_alias
  operation_same depth binary.And a b h one two = both_same binary.And h _ _ _ _ one two
  operation_same depth binary.Eq a b h one two = both_same binary.Eq h _ _ _ _ one two
  operation_same depth binary.Ge a b h one two = both_same binary.Ge h _ _ _ _ one two
  operation_same depth binary.Le a b h one two = both_same binary.Le h _ _ _ _ one two
  operation_same depth _ a b h one two = absurd (cc)

  layer_same : (depth : ℕ) (l : Layer) → ((e : Expr) → is_simple_to depth e ≡ true
      → lower_to depth here e ≡ lower_to depth there e)
      → is_simple_at (is_simple_to depth) l ≡ true → node_at (lower_to depth) here l
      ≡ node_at (lower_to depth) there l
  unfolding prefixed
  layer_same depth (Expr-F.Integer text) below h = refl
  layer_same depth (Expr-F.Parameter n) below h = refl
  layer_same depth (Expr-F.Column None name) below h = column_same name
  layer_same depth (Expr-F.Unary unary.Plus e) below h = λ i. below e h i >>=
      (λ t. pure (unbound_same t i))
  layer_same depth (Expr-F.Binary op a b) below h =
      let parts = and_right (is_simple_op op) (is_simple_to depth a && is_simple_to depth b) h in
      operation_same depth op a b (and_left (is_simple_op op)
      (is_simple_to depth a && is_simple_to depth b) h)
      (below a (and_left (is_simple_to depth a) (is_simple_to depth b) parts))
      (below b (and_right (is_simple_to depth a) (is_simple_to depth b) parts))
  layer_same depth _ below h = absurd (cc)

  pub lower_same : (depth : ℕ) (e : Expr) → is_simple_to depth e ≡ true → lower_to depth here e
      ≡ lower_to depth there e
  unfolding lower_to node opened
  lower_same zero e h = absurd (cc)
  lower_same (suc depth) e h =
      ap (λ o. spend 1 >>= (λ _. begin >>= (λ outer. o >>=
      (λ t. finish outer (passes e) >>= (λ _. pure t)))))
      (layer_same depth (out-Expr e) (lower_same depth) h)

  -- ---- what a query shows

  name_same : (text : Name) (column : Option ℕ) (is_row stored : Bool) (alias : Option ℕ)
      → found_name schema text (found place column is_row stored alias)
      ≡ found_name (one table) text (found 0 column is_row stored alias)
  unfolding declared_name
  name_same text (Some k) is_row stored alias = ap
      (λ (o : Option Table). unwrap_or (option_and_then
      (λ t. option_and_then (λ k. option_map (λ (c : ColumnOf). c.name) (slice_get t.columns k))
      (Some k)) o) text) listed
  name_same text None true true alias = ap (λ (o : Option Table). unwrap_or
      (option_and_then (λ t. option_and_then (λ k. option_map (λ (c : ColumnOf). c.name)
      (slice_get t.columns k)) (option_and_then (λ (t : Table). t.key) o)) o) (codes "rowid"))
      listed
  name_same text None true false (Some k) = refl
  name_same text None true false None = refl
  name_same text None false stored (Some k) = refl
  name_same text None false stored None = refl

  heading_at_same : (depth : ℕ) (text : Name) (l : Layer) → is_simple_at (is_simple_to depth) l
      ≡ true → heading_at here text l ≡ heading_at there text l
  heading_at_same depth text (Expr-F.Integer number) h = refl
  heading_at_same depth text (Expr-F.Parameter n) h = refl
  heading_at_same depth text (Expr-F.Column None name) h = ap (found_name schema text)
      (find_here name)
      ∙ name_same text (column_named table name) (is_rowid name) (nat_lt table.tree (2 ^ 31))
      (alias_of name shown)
      ∙ ap (found_name (one table) text) (sym (find_there name))
  heading_at_same depth text (Expr-F.Unary op e) h = refl
  heading_at_same depth text (Expr-F.Binary op a b) h = refl
  heading_at_same depth text _ h = absurd (cc)

  heading_same : (e : Expr) (text : Name) → is_simple e ≡ true → heading here e text
      ≡ heading there e text
  unfolding heading
  heading_same e text h = heading_at_same 699 text (out-Expr e) h

  abbrev tables_here : List Bound
  tables_here = bound_at named place ∷ []

  abbrev tables_there : List Bound
  tables_there = bound_at named 0 ∷ []

  shown_at_same : (done : List Output) (l : ShownLayer) → is_simple_shown_at l ≡ true
      → shown_at lower here tables_here done l ≡ shown_at lower there tables_there done l
  shown_at_same done (Shown-F.One e alias text) h = λ i. lower_same 700 e h i >>=
      (λ t. last >>= (λ c.
      pure (done ++ record {
        name = unwrap_or alias
            (heading_same e text h i);
        is_alias = is_some alias;
        is_column = is_column e;
        term = t;
        carried = c;
      } ∷ [])))
  shown_at_same done _ h = absurd (cc)

  shown_same : (done : List Output) (s : Shown) → is_simple_shown_at (out-Shown s) ≡ true
      → Rattle.sqlite_resolve.specs.Body.shown lower here tables_here done s
      ≡ Rattle.sqlite_resolve.specs.Body.shown lower there tables_there done s
  unfolding Rattle.sqlite_resolve.specs.Body.shown
  shown_same done s h = shown_at_same done (out-Shown s) h

  outputs_from_same : (done : List Output) (all : List Shown) → are_simple_shown all ≡ true
      → outputs_from lower here tables_here done all
      ≡ outputs_from lower there tables_there done all
  outputs_from_same done [] h = refl
  outputs_from_same done (s ∷ more) h =
      let one = and_left (is_simple_shown_at (out-Shown s)) (are_simple_shown more) h in
      let rest = and_right (is_simple_shown_at (out-Shown s)) (are_simple_shown more) h in
      λ i. shown_same done s one i >>= (λ longer. outputs_from_same longer more rest i)

  pub outputs_same : (all : List Shown) → are_simple_shown all ≡ true
      → outputs lower here tables_here all ≡ outputs lower there tables_there all
  unfolding outputs
  outputs_same all h = outputs_from_same [] all h

  -- ---- which rows, and in which order

  pub tests_same : (done : List Term) (test : Option Expr) → is_simple_test test ≡ true
      → tests lower here done test ≡ tests lower there done test
  unfolding tests
  tests_same done None h = refl
  tests_same done (Some e) h = λ i. lower_same 700 e h i >>= (λ t. pure (done ++ conjuncts t))

  key_same : (outs : List Output) (e : Expr) → is_simple e ≡ true → key lower here outs e
      ≡ key lower there outs e
  unfolding key
  key_same outs e h = λ i. lower_same 700 e h i >>= (λ t.
      if is_numeral e then lift (place_in t) >>= shown_again aggregates outs else
      (if reads_below 1 t then fail Unsupported else pure t))

  aliased_same : (outs : List Output) (e : Expr) (at : Option ℕ) → is_simple e ≡ true
      → aliased_or lower here outs e at ≡ aliased_or lower there outs e at
  aliased_same outs e (Some at) h = refl
  aliased_same outs e None h = key_same outs e h

  sort_same : (outs : List Output) (done : List (Term × Key)) (s : Sort) → is_simple_sort s ≡ true
      → sort lower here outs done s ≡ sort lower there outs done s
  unfolding sort
  sort_same outs done s h = λ i. aliased_same outs (peeled (out-Sort s).key)
      (alias_in outs (peeled (out-Sort s).key)) h i >>= (λ t.
      collation_of (out-Sort s).key >>= (λ how. placed done
      (record { collation = how; descending = (out-Sort s).descending })
      (out-Sort s).nulls_first t))

  sorts_from_same : (outs : List Output) (done : List (Term × Key)) (all : List Sort)
      → are_simple_sorts all ≡ true
      → sorts_from lower here outs done all ≡ sorts_from lower there outs done all
  sorts_from_same outs done [] h = refl
  sorts_from_same outs done (s ∷ more) h =
      let one = and_left (is_simple_sort s) (are_simple_sorts more) h in
      let rest = and_right (is_simple_sort s) (are_simple_sorts more) h in
      λ i. sort_same outs done s one i >>= (λ longer. sorts_from_same outs longer more rest i)

  pub sorts_same : (outs : List Output) (all : List Sort) → are_simple_sorts all ≡ true
      → sorts lower here outs all ≡ sorts lower there outs all
  unfolding sorts
  sorts_same outs all h = sorts_from_same outs [] all h

  -- ---- FROM

  pub joins_same : (from : List Source) → are_one from ≡ true
      → joins lower here tables_here from ≡ joins lower there tables_there from
  unfolding joins join shared inner_join tests
  joins_same [] h = absurd (cc)
  joins_same (s ∷ t ∷ more) h = absurd (cc)
  joins_same (s ∷ []) h =
      let it = out-Source s in
      let plain = plain_source s h in
      let before = λ (cx : Context) (sch : Schema) (at : ℕ) (table : Checked Table)
      (on : Option Expr) (using : List Name) (left : Bool).
      if is_some on || not (length using == 0) then fail {A = Joined} Misuse
      else ((lift table >>= (λ t. shared cx (bound_at named at ∷ []) (bound_at named at) >>=
      (λ same.
      if left then left_join lower cx (record { steps = []; filter = [] }) t.tree 1 same on else
      inner_join lower cx (record { steps = []; filter = [] }) t.tree same on))) >>=
      (λ longer. pure longer)) in
      (λ i. before here schema place (table_at schema place) (plain.on i) (plain.using i)
      (plain.left i))
      ∙ (λ i. before here schema place (or_else (listed i) NoSuchTable) None [] false)
      ∙ sym (λ i. before there (one table) 0 (Ok table) (plain.on i) (plain.using i) (plain.left i))
