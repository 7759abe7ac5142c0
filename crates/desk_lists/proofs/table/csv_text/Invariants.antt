use Rattle.std.proofs.Common.{◌≡◌, take, Some}
use Rattle.std.specs.List.{flat_map}
use Rattle.csv.specs.Writing.{text_written}
use Rattle.desk_report.specs.CsvTable.{is_between_rows}
use Rattle.desk_lists.specs.CsvTable.{row_text}
use Rattle.desk_lists.proofs.table.csv_text.Given as goal

-- a record for each row before the index
abbrev pub invariant-loop-row : goal.invariant-loop-row
invariant-loop-row l = record {
  text : text_written (λ v. Some v.items) l.writer
      ≡ Some (flat_map row_text (take l.row-index l.rows));
  ready : is_between_rows l.writer;
}
