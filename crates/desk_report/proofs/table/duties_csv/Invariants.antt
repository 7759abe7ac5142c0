use Rattle.std.proofs.Common.{◌≡◌, ◌++◌, take, Some}
use Rattle.std.specs.List.{flat_map}
use Rattle.csv.specs.Writing.{text_written}
use Rattle.desk_report.specs.CsvTable.{column_names, duty_record, is_between_rows, record_text}
use Rattle.desk_report.proofs.table.duties_csv.Given as goal

-- the names, and a record for each duty before the index
abbrev pub invariant-loop-line : goal.invariant-loop-line
invariant-loop-line l = record {
  text : text_written (λ v. Some v.items) l.writer
      ≡ Some (record_text column_names ++ flat_map duty_record (take l.line-index l.lines));
  ready : is_between_rows l.writer;
}
