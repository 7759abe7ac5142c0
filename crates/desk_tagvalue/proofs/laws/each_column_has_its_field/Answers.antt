use Rattle.desk_tagvalue.proofs.Columns.{columns_when_read, once_when_read, package_alone}
use Rattle.desk_tagvalue.proofs.laws.each_column_has_its_field.Goals as goal

pub returns : goal.returns
returns c = record {
  once = once_when_read;
  columns = columns_when_read;
  placed = package_alone;
}
