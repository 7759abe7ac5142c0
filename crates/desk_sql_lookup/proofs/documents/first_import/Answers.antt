use Rattle.std.proofs.Common.{◌≡◌, List, map, rules}
use Rattle.std.specs.List.{AllByRecursion}
use Rattle.desk_model.specs.declared.command.Fault.TheVariants.{Memory}
use Rattle.desk_model.specs.declared.row.DocumentRow.{DocumentRow}
use Rattle.desk_sql_layout.specs.Causes.{IsRow}
use Rattle.desk_sql_layout.specs.Shown.{import_cells}
use Rattle.desk_sql_layout.proofs.Causes.{no_days}
use Rattle.desk_sql_layout.proofs.Loops.{got_place}
use Rattle.desk_sql_lookup.proofs.documents.first_import.Goals as goal

pub returns-in_err-read_import-in-Some-clause-cause : goal.returns-in_err-read_import-in-Some-clause-cause
returns-in_err-read_import-in-Some-clause-cause c =
    let rows = c.args.rows.now in
    let told : (xs : List DocumentRow) → rows ≡ map import_cells xs → AllByRecursion IsRow rows
    → c.in_err-read_import-in-Some.field-0.0 ≡ Memory = λ xs is all.
    let x = got_place import_cells IsRow (λ (x : DocumentRow). Unit {0}) xs rows 0 c.in-Some.row.now
    is c.in-Some.ensures.value all (no_days xs) in
    c.in_err-read_import-in-Some.ensures.cause x.0 x.1 x.2 in
    search rules
