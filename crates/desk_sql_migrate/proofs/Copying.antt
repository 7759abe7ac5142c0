-- Profile 1 for each document: what the statement means in each schema that has a desk's tables.
use Rattle.std.proofs.Common.{◌≡◌, ◌∙◌, ℕ, Bool, false, [], ◌∷◌, List, codes, refl, sym, ap, subst}
use Rattle.std.proofs.Common.{inl, inr, Ok, Err, Result}
use Rattle.sqlite_value.specs.declared.keys.Collation.TheVariants.{Binary}
use Rattle.sqlite_value.specs.declared.value.Value.TheVariants.{Null}
use Rattle.sqlite_sql.specs.Term.{col, lit}
use Rattle.sqlite_schema.specs.declared.command.Command.{Command}
use Rattle.sqlite_schema.specs.declared.command.Command.TheVariants.{Insert}
use Rattle.sqlite_schema.specs.declared.command.Source.TheVariants.{Query}
use Rattle.sqlite_schema.specs.declared.program.Program.{Program}
use Rattle.sqlite_schema.specs.declared.schema.Schema.{Schema}
use Rattle.sqlite_schema.specs.declared.schema.Table.{Table}
use Rattle.sqlite_resolve.specs.declared.compiled.Compiled.{Compiled}
use Rattle.sqlite_resolve.specs.declared.error.CompileError.{CompileError}
use Rattle.sqlite_resolve.specs.Compile.{first}
use Rattle.sqlite_rules.specs.Lists.{Has}
use Rattle.sqlite_tied.specs.Compute.{everything}
use Rattle.sqlite.specs.Listing.{misses_table, understood}
use Rattle.sqlite.proofs.Callers.{IsPlain, command_of}
use Rattle.desk_sql_layout.specs.Cells.{number}
use Rattle.desk_sql_layout.specs.Desk.{HasDesk, found_as}
use Rattle.desk_sql_layout.specs.Layout as d
use Rattle.desk_sql_layout.specs.Layout.{desk_schema}
use Rattle.desk_sql_layout.proofs.Declared.{actual, entry, has_actual}
use Rattle.desk_sql_layout.proofs.Queries.{query_on}
use Rattle.desk_sql_layout.proofs.Selecting.{understood_as}
use Rattle.desk_sql_layout.proofs.Writing.{IsCommand}
use Rattle.desk_sql_migrate.proofs.TwoTables.{Copies, compiled_copy, copy}

abbrev pub readings_text : List ℕ
readings_text = codes "INSERT INTO reading SELECT number, 1 FROM document"

-- no other order is used to compare the columns
abbrev pub readings_query : ℕ → Program
readings_query tree = record {
  lets = [];
  body = record (query_on tree [] (col 1 0 ∷ lit Null ∷ lit (number 1) ∷ []) []) {
    collations = Binary ∷ Binary ∷ Binary ∷ [];
  };
}

abbrev readings_in : ℕ → Bool → Table
readings_in tree not_null = found_as d.reading_table tree not_null

abbrev documents_in : ℕ → Bool → Table
documents_in tree not_null = found_as d.document_table tree not_null

readings_are : (at from : ℕ) (one other : Bool)
    → Copies (readings_in at one) (documents_in from other) (first readings_text)
unfolding everything
readings_are at from one other = (refl, refl, refl, (refl, refl, refl))

readings_mean : (place at from : ℕ) (one other : Bool)
    → IsCommand (copy (readings_in at one) (documents_in from other) place (first readings_text))
    readings_text 0 (Insert place (Query (readings_query from)))
unfolding everything
readings_mean place at from one other = record {
  is = refl;
  plain = (refl, refl);
  suits = (refl, refl);
}

never_missing : (r : Result Compiled CompileError) (text : List ℕ) (command : Command)
    → IsCommand r text 0 command → misses_table r ≡ false
never_missing (Ok c) text command it = refl
never_missing (Err e) text command it = absurd it.suits

pub has_readings : Has desk_schema.tables d.reading_table
has_readings = inr (inr (inr (inr (inr (inr (inr (inr (inr (inr (inr (inr (inr (inr (inl refl))))))))))))))

pub has_documents : Has desk_schema.tables d.document_table
has_documents = inr (inr (inr (inl refl)))

module _ (schema : Schema) (desk : HasDesk schema) where
  abbrev place : ℕ
  place = (entry schema desk d.reading_table has_readings).place

  abbrev pub source : ℕ
  source = (entry schema desk d.document_table has_documents).tree

  abbrev here : Result Compiled CompileError
  here = copy (actual schema desk d.reading_table has_readings)
      (actual schema desk d.document_table has_documents) place (first readings_text)

  meant : IsCommand here readings_text 0 (Insert place (Query (readings_query source)))
  meant = readings_mean place (entry schema desk d.reading_table has_readings).tree source
      (entry schema desk d.reading_table has_readings).not_null
      (entry schema desk d.document_table has_documents).not_null

  known : understood schema readings_text ≡ here
  known = understood_as schema readings_text here
      (compiled_copy schema place (entry schema desk d.document_table has_documents).place
      (actual schema desk d.reading_table has_readings)
      (actual schema desk d.document_table has_documents)
      (has_actual schema desk d.reading_table has_readings)
      (has_actual schema desk d.document_table has_documents) readings_text
      (readings_are (entry schema desk d.reading_table has_readings).tree source
      (entry schema desk d.reading_table has_readings).not_null
      (entry schema desk d.document_table has_documents).not_null))
      (never_missing here readings_text (Insert place (Query (readings_query source))) meant)

  pub readings_here : command_of (understood schema readings_text)
      ≡ Insert place (Query (readings_query source))
  readings_here = ap command_of known ∙ meant.is

  pub readings_plain : IsPlain (understood schema readings_text)
  readings_plain = subst IsPlain (sym known) meant.plain
