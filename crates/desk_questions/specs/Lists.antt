-- Lines of releases and documents that were looked up.
use Rattle.std.specs.Prelude.{ℕ, List, [], filter, length, unwrap_or}
use Rattle.std.specs.Option.{option_map}
use Rattle.desk_model.specs.Keys.{is_change_of, is_duty_of, is_shipped_by}
use Rattle.desk_model.specs.Queries.{totals_of}
use Rattle.desk_model.specs.Tables.{Tables}
use Rattle.desk_model.specs.declared.command.DocumentLine.{DocumentLine}
use Rattle.desk_model.specs.declared.command.ReleaseLine.{ReleaseLine}
use Rattle.desk_model.specs.declared.row.ChangeRow.{ChangeRow}
use Rattle.desk_model.specs.declared.row.DocumentHead.{DocumentHead}
use Rattle.desk_model.specs.declared.row.ReleaseRow.{ReleaseRow}
use Rattle.desk_history.specs.FromTables.{release_found}

-- the line of a release from its tally, which a release of the tables has
abbrev pub counted_line : Tables → ReleaseRow → ReleaseLine
counted_line t row = record {
  release = row;
  totals = unwrap_or (option_map (λ found. totals_of (filter (is_duty_of row.name) t.duty))
      (release_found t row.name)) (totals_of []);
}

-- the line of a document: how many packages it ships
abbrev pub head_line : Tables → DocumentHead → DocumentLine
head_line t head = record {
  head = head;
  shipped = length (filter (is_shipped_by head.number) t.packages);
}

-- the changes of a duty, by step
abbrev pub changes_found : Tables → ℕ → List ChangeRow
changes_found t q = filter (is_change_of q) t.changes
