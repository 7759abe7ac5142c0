-- The value of a cell of a list.
use Rattle.serde_json.specs.Data.{Data, string}
use Rattle.desk_json.specs.Parts.{term_list, whole}
use Rattle.desk_json.specs.declared.cells.Cell.{Cell}
use Rattle.desk_json.specs.declared.cells.Cell.TheVariants.{Number, Text, Texts}

-- a cell as a JSON value: a whole number, a text or a list of texts
abbrev pub cell_data : Cell → Data
cell_data (Number n) = whole n
cell_data (Text text) = string text.now
cell_data (Texts texts) = term_list texts.now
