use Rattle.std.proofs.Common.{take}
use Rattle.std.specs.List.{AllByRecursion}
use Rattle.desk_sql_layout.specs.Desk.{HasTable}
use Rattle.desk_sql_adopt.specs.Forms.{table_by}
use Rattle.desk_sql_adopt.specs.declared.forms.TableForm.{TableForm}
use Rattle.desk_sql_adopt.proofs.declared.has_tables.Given as goal

-- so far each is there
abbrev pub invariant-loop-form : goal.invariant-loop-form
invariant-loop-form l =
    AllByRecursion (λ (form : TableForm). HasTable l.schema (table_by form))
    (take l.form-index l.forms)
