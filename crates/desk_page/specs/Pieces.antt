-- The pieces that cells are made of. The cell that names a row begins it, and one of two kinds ends
-- it.
use Rattle.std.specs.Prelude.{ℕ, List, ◌++◌, codes, decimal}
use Rattle.std.specs.List.{flat_map}
use Rattle.desk_page.specs.Escapes.{escaped}

-- a text between fixed ones
unfoldable pub framed : List ℕ → List ℕ → List ℕ → List ℕ
framed before text after = before ++ escaped text ++ after

-- a number between fixed texts
unfoldable pub counted : List ℕ → ℕ → List ℕ → List ℕ
counted before number after = before ++ decimal number ++ after

-- two numbers between fixed texts
unfoldable pub paired : List ℕ → ℕ → List ℕ → ℕ → List ℕ → List ℕ
paired before number between other after = before ++ decimal number ++ between ++ decimal other
    ++ after

-- the cell that names a row
unfoldable pub name_cell : List ℕ → List ℕ
name_cell text = framed (codes "<tr><th scope=\"row\">") text (codes "</th>")

-- the cell that names the row of a duty, and that others link to
unfoldable pub anchor_cell : ℕ → List ℕ
anchor_cell duty = paired (codes "<tr><th scope=\"row\" id=\"duty-") duty (codes "\">") duty
    (codes "</th>")

-- the cell that names a row by a duty, and links to it
unfoldable pub link_cell : ℕ → List ℕ
link_cell duty = paired (codes "<tr><th scope=\"row\"><a href=\"#duty-") duty (codes "\">") duty
    (codes "</a></th>")

-- a cell with a text, in which line feeds count as blanks
unfoldable pub text_cell : List ℕ → List ℕ
text_cell text = framed (codes "<td>") text (codes "</td>")

-- a cell with a count, in decimal digits
unfoldable pub number_cell : ℕ → List ℕ
number_cell number = counted (codes "<td class=\"number\">") number (codes "</td>")

-- a licence that was chosen, as its rule spells it
unfoldable pub rule_line : List ℕ → List ℕ
rule_line rule = framed (codes "<div>") rule (codes "</div>")

-- a cell with several licences, a line each
unfoldable pub rules_cell : List (List ℕ) → List ℕ
rules_cell rules = codes "<td>" ++ flat_map rule_line rules ++ codes "</td>"

-- the last cell of a row, with a text that keeps its lines
unfoldable pub last_cell : List ℕ → List ℕ
last_cell text = framed (codes "<td class=\"lines\">") text (codes "</td></tr>\n")

-- the last cell of a row, with a bar as long as a part of a whole
unfoldable pub bar_cell : ℕ → ℕ → List ℕ
bar_cell part whole =
    paired (codes "<td><svg viewBox=\"0 0 ") whole
    (codes " 1\" preserveAspectRatio=\"none\" aria-hidden=\"true\"><rect width=\"") part
    (codes "\" height=\"1\"/></svg></td></tr>\n")
