-- The cells of a row.
use Rattle.std.specs.Prelude.{ℕ, List}
use Rattle.std.specs.List.{flat_map}
use Rattle.desk_page.specs.Pieces.{anchor_cell, bar_cell, last_cell, link_cell, name_cell}
use Rattle.desk_page.specs.Pieces.{number_cell, rules_cell, text_cell}
use Rattle.desk_page.specs.declared.cell.Cell.{Cell}
use Rattle.desk_page.specs.declared.cell.Cell.TheVariants as cells

-- What names a row: a text, a duty that others link to, or a duty with a link to its own row. Then
-- a text, a count, or licences. What ends a row: a text that keeps its lines, or a bar as long as a
-- part of a whole.
pub data CellText : Type 0 where
  name : List ℕ → CellText
  anchor : ℕ → CellText
  link : ℕ → CellText
  plain : List ℕ → CellText
  count : ℕ → CellText
  rules : List (List ℕ) → CellText
  last : List ℕ → CellText
  bar : ℕ → ℕ → CellText

-- the cell that the code has, with the bytes of its texts
abbrev pub cell_of : Cell → CellText
cell_of (cells.Name text) = name text.now
cell_of (cells.Anchor duty) = anchor duty
cell_of (cells.Link duty) = link duty
cell_of (cells.Text text) = plain text.now
cell_of (cells.Count number) = count number
cell_of (cells.Rules texts) = rules texts.now
cell_of (cells.Last text) = last text.now
cell_of (cells.Bar part whole) = bar part whole

-- a cell as HTML
abbrev pub cell_text : CellText → List ℕ
cell_text (name text) = name_cell text
cell_text (anchor duty) = anchor_cell duty
cell_text (link duty) = link_cell duty
cell_text (plain text) = text_cell text
cell_text (count number) = number_cell number
cell_text (rules texts) = rules_cell texts
cell_text (last text) = last_cell text
cell_text (bar part whole) = bar_cell part whole

-- the cells of one or more rows, one after another
abbrev pub row_text : List CellText → List ℕ
row_text row = flat_map cell_text row
