-- What the library makes of the text of a query for any schema.
use Rattle.std.proofs.Common.{◌≡◌, ℕ, List, None, Ok}
use Rattle.sqlite_value.specs.declared.keys.Key.{Key}
use Rattle.sqlite_sql.specs.Term.{Term}
use Rattle.sqlite_schema.specs.declared.schema.Schema.{Schema}
use Rattle.sqlite_resolve.specs.Lowering.{and_then}
use Rattle.sqlite_resolve.specs.Compile.{first, returning}
use Rattle.desk_sql_layout.proofs.Selecting.{IsSelect}
use Rattle.desk_sql_adopt.specs.Reading.{Asks}
use Rattle.desk_sql_adopt.proofs.Asking.{asks}

-- this query of a table of the desk, which changes nothing for any schema
pub record IsBareSelect (text : List ℕ) (parameters tree : ℕ) (tests project : List Term)
    (by : List (Term × Key))
    (names : List (List ℕ)) : Type 0 where
  pub bare : (schema : Schema) (base : ℕ)
      → and_then (first text) (λ p. returning schema base p.statement) ≡ Ok None
  pub select : IsSelect text parameters tree tests project by names

pub select_asks : {text : List ℕ} {parameters tree : ℕ} {tests project : List Term} {by : List
    (Term × Key)}
    {names : List (List ℕ)} → IsBareSelect text parameters tree tests project by names → Asks text
select_asks {text} it = asks text it.bare
