-- What the library makes of the text of a query, proved once for all that is said of it.
use Rattle.std.proofs.Common.{◌≡◌, ℕ, Bool, true, false, List, [], ◌∷◌, length, Some}
use Rattle.std.proofs.Common.{Ok, Err}
use Rattle.std.proofs.Common.{Result, refl, sym, ap, subst, ◌∙◌}
use Rattle.std.specs.Prelude.{◌&&◌, if◌then◌else◌}
use Rattle.sqlite_value.specs.declared.keys.Key.{Key}
use Rattle.sqlite_value.specs.Order.{Row}
use Rattle.sqlite_sql.specs.Term.{Term}
use Rattle.sqlite_typing.specs.Types.{accepts_after, accepts_program, is_count, row_classes}
use Rattle.sqlite_schema.specs.declared.schema.Table.{Table}
use Rattle.sqlite_schema.specs.declared.schema.Schema.{Schema}
use Rattle.sqlite_schema.specs.declared.command.Command.TheVariants.{Select}
use Rattle.sqlite_resolve.specs.declared.compiled.Compiled.{Compiled}
use Rattle.sqlite_resolve.specs.declared.error.CompileError.{CompileError}
use Rattle.sqlite_resolve.specs.Compile.{compiled, first}
use Rattle.sqlite_rules.specs.Lists.{Has}
use Rattle.sqlite.specs.Listing.{if_select, listing_schema, misses_table, understood, reads_listing}
use Rattle.sqlite.proofs.Callers.{IsPlain, command_of}
use Rattle.desk_sql_layout.specs.Causes.{IsAsked, IsPlainText}
use Rattle.desk_sql_layout.specs.Desk.{HasDesk, found_as}
use Rattle.desk_sql_layout.specs.Layout.{desk_schema, table_of}
use Rattle.desk_sql_layout.proofs.Causes.{Suits, asked}
use Rattle.desk_sql_layout.proofs.Declared.{actual, classes_same, desk_is, entry, has_actual}
use Rattle.desk_sql_layout.proofs.Declared.{own_entry, table_at, table_is}
use Rattle.desk_sql_layout.proofs.OneQuery.{SelectsFrom, accepts_are, compiled_same}
use Rattle.desk_sql_layout.proofs.OneQuery.{meant}
use Rattle.desk_sql_layout.proofs.Queries.{query_on}

-- what a text means is this query of a tree, and the library plans it as it is
pub record IsMeant (r : Result Compiled CompileError) (text : List ℕ) (parameters tree : ℕ)
    (tests project : List Term) (by : List (Term × Key)) (names : List (List ℕ)) : Type 0 where
  pub is : command_of r
      ≡ Select (record { lets = []; body = query_on tree tests project by }) names
  pub plain : IsPlain r
  pub suits : Suits text parameters r

-- A text with this many parameters is this query of a table of the desk, whatever tree the table
-- has, and whether or not its rowid is NOT NULL. The number is that of the table's tree in
-- `desk_schema`.
pub record IsSelect (text : List ℕ) (parameters tree : ℕ) (tests project : List Term)
    (by : List (Term × Key)) (names : List (List ℕ)) : Type 0 where
  pub from : (at : ℕ) (not_null : Bool)
      → SelectsFrom (found_as (table_at tree) at not_null) (first text)
  pub is : (at : ℕ) (not_null : Bool)
      → IsMeant (meant (found_as (table_at tree) at not_null) (first text)) text parameters at tests
      project by names

-- a command was compiled
never_missing : (r : Result Compiled CompileError) (text : List ℕ) (parameters tree : ℕ)
    (tests project : List Term) (by : List (Term × Key)) (names : List (List ℕ))
    → IsMeant r text parameters tree tests project by names → misses_table r ≡ false
never_missing (Ok c) text parameters tree tests project by names it = refl
never_missing (Err e) text parameters tree tests project by names it = absurd it.suits

pub understood_as : (schema : Schema) (text : List ℕ) (r : Result Compiled CompileError)
    → compiled schema text ≡ r → misses_table r ≡ false → understood schema text ≡ r
unfolding understood
understood_as schema text r is found =
    let unlisted : reads_listing schema text ≡ false = ap misses_table is ∙ found in
    (λ i. if unlisted i then if_select (compiled listing_schema text) else compiled schema text)
    ∙ is

module _ {text : List ℕ} {parameters tree : ℕ} {tests project : List Term}
    {by : List (Term × Key)} {names : List (List ℕ)}
    (it : IsSelect text parameters tree tests project by names)
    (t : Table) (there : Has desk_schema.tables t) (labelled : t.tree ≡ tree)
    (schema : Schema) (desk : HasDesk schema) where
  abbrev at : ℕ
  at = (entry schema desk t there).tree

  from_here : SelectsFrom (actual schema desk t there) (first text)
  from_here = subst (λ u. SelectsFrom (found_as u at (entry schema desk t there).not_null)
      (first text))
      (ap table_at (sym labelled) ∙ table_is t there)
      (it.from at (entry schema desk t there).not_null)

  abbrev here : Result Compiled CompileError
  here = meant (actual schema desk t there) (first text)

  pub meant_here : IsMeant here text parameters at tests project by names
  meant_here = subst (λ u. IsMeant (meant (found_as u at (entry schema desk t there).not_null)
      (first text)) text parameters at tests project by names)
      (ap table_at (sym labelled) ∙ table_is t there)
      (it.is at (entry schema desk t there).not_null)

  compiled_here : compiled schema text ≡ here
  compiled_here = compiled_same schema (entry schema desk t there).place
      (actual schema desk t there) (has_actual schema desk t there) text from_here

  found : misses_table here ≡ false
  found = never_missing here text parameters at tests project by names meant_here

  pub unlisted : reads_listing schema text ≡ false
  unlisted = ap misses_table compiled_here ∙ found

  pub understood_here : understood schema text ≡ here
  understood_here = understood_as schema text here compiled_here found

  pub command_here : command_of (understood schema text)
      ≡ Select (record { lets = []; body = query_on at tests project by }) names
  command_here = ap command_of understood_here ∙ meant_here.is

  pub plain_here : IsPlain (understood schema text)
  plain_here = subst IsPlain (sym understood_here) meant_here.plain

  pub suits_here : Suits text parameters (understood schema text)
  suits_here = subst (Suits text parameters) (sym understood_here) meant_here.suits

-- the types of a query don't hang on the tree
module _ (tests project : List Term) (by : List (Term × Key)) (params : Row) (t : Table)
    (there : Has desk_schema.tables t) where
  typed_as : (schema : Schema) (desk : HasDesk schema)
      → accepts_program schema [] (query_on (entry schema desk t there).tree tests project by)
      params
      ≡ (accepts_after params (query_on 0 tests project by) (Some (row_classes t ∷ []))
      && (is_count params (query_on 0 tests project by).limit
      && is_count params (query_on 0 tests project by).offset))
  typed_as schema desk =
      let q = query_on (entry schema desk t there).tree tests project by in
      accepts_are schema (entry schema desk t there).place (actual schema desk t there)
      (has_actual schema desk t there) q params refl
      ∙ ap (λ classes. accepts_after params q (Some (classes ∷ []))
      && (is_count params q.limit && is_count params q.offset))
      (classes_same t (entry schema desk t there).tree (entry schema desk t there).not_null)

  pub accepts_here : accepts_program desk_schema [] (query_on t.tree tests project by) params ≡ true
      → (schema : Schema) (desk : HasDesk schema)
      → accepts_program schema [] (query_on (entry schema desk t there).tree tests project by)
      params ≡ true
  accepts_here accepts schema desk =
      let own : (entry desk_schema desk_is t there).tree ≡ t.tree = own_entry t there in
      typed_as schema desk ∙ sym (typed_as desk_schema desk_is)
      ∙ ap (λ tree. accepts_program desk_schema [] (query_on tree tests project by) params) own
      ∙ accepts

-- with these values
pub select_asked : {text : List ℕ} {parameters tree : ℕ} {tests project : List Term} {by : List
    (Term × Key)}
    {names : List (List ℕ)} → IsSelect text parameters tree tests project by names → (t : Table)
    → Has desk_schema.tables t → t.tree ≡ tree → (params : Row)
    → parameters ≡ length params
    → accepts_program desk_schema [] (query_on tree tests project by) params ≡ true
    → IsAsked text params
select_asked {text} {parameters} {tree} {tests} {project} {by} {names} it t there labelled params
    many accepts = record {
      within = λ schema desk.
          asked schema text params (entry schema desk t there).tree tests project by names
          (command_here it t there labelled schema desk, unlisted it t there labelled schema desk)
          (plain_here it t there labelled schema desk)
          (subst (λ n. Suits text n (understood schema text)) many
          (suits_here it t there labelled schema desk))
          (accepts_here tests project by params t there
          (subst (λ n. accepts_program desk_schema [] (query_on n tests project by) params ≡ true)
          (sym labelled) accepts)
          schema desk);
    }

pub select_plain : {text : List ℕ} {parameters tree : ℕ} {tests project : List Term} {by : List
    (Term × Key)}
    {names : List (List ℕ)} → IsSelect text parameters tree tests project by names → (t : Table)
    → Has desk_schema.tables t → t.tree ≡ tree → IsPlainText text
select_plain it t there labelled = record { within = plain_here it t there labelled }

-- a table by these parts, besides which a desk's tables have none
abbrev pub as_declared : Table → Table
as_declared table =
    table_of table.name table.tree table.columns table.key table.primary table.uniques table.orders
