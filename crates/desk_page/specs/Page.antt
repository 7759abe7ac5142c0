-- The page of a release.
use Rattle.std.specs.Prelude.{ℕ, List, [], ◌∷◌, ◌++◌, codes, Option, Some, None}
use Rattle.std.specs.List.{flat_map}
use Rattle.desk_model.specs.declared.bill.Bill.{Bill}
use Rattle.desk_model.specs.declared.bill.BillText.{BillText}
use Rattle.desk_model.specs.declared.command.DutyLine.{DutyLine}
use Rattle.desk_model.specs.declared.command.Totals.{Totals}
use Rattle.desk_model.specs.declared.row.ChangeRow.{ChangeRow}
use Rattle.desk_page.specs.Fixed.{columns, contents, notices_start, opening, page_end, page_start}
use Rattle.desk_page.specs.Fixed.{section_end, style, table_end}
use Rattle.desk_page.specs.Pieces.{framed}
use Rattle.desk_page.specs.Rows.{change_row, duty_row, licence_row, licences, package_row, totals_rows, waiver_rows}
use Rattle.desk_page.specs.declared.fixed.Table.{Table}
use Rattle.desk_page.specs.declared.fixed.Table.TheVariants as table

-- the title and the style, then the name of the release and the form in which it ships
unfoldable pub heading : Bill → List ℕ
heading bill = framed page_start bill.release style
    ++ framed (codes "<h1>Release ") bill.release (codes "</h1>\n")
    ++ framed (codes "<p>It ships as ") bill.form contents

-- rows below the names of their columns, or a note that there are none
abbrev pub listing : List ℕ → List ℕ → List ℕ
listing names [] = codes "<p>None.</p>\n"
listing names (b ∷ rows) = names ++ (b ∷ rows) ++ table_end

-- a section of the page: its heading, and its table
unfoldable pub section : Table → List ℕ → List ℕ
section t rows = opening t ++ listing (columns t) rows ++ section_end

-- how many duties are in each state, what ships, and the duties of each licence
unfoldable pub overview : Bill → Totals → List DutyLine → List ℕ
overview bill totals duties = section table.Totals (totals_rows totals)
    ++ section table.Packages (flat_map package_row bill.lines)
    ++ section table.Licences (flat_map (licence_row duties) (licences duties))

-- the duties one by one, the waivers that end, and the changes
unfoldable pub details : List DutyLine → List (List ChangeRow) → List ℕ
details duties changes = section table.Duties (flat_map duty_row duties)
    ++ section table.Waivers (waiver_rows duties changes)
    ++ section table.Changes (flat_map (flat_map change_row) changes)

-- a text, if one is recorded: HTML ignores a line feed directly after `<pre>`
unfoldable pub body_text : Option (List ℕ) → List ℕ
body_text None = codes "<p>No text recorded.</p>\n</article>\n"
body_text (Some body) = framed (codes "<pre>\n") body (codes "</pre>\n</article>\n")

-- a text after its title
unfoldable pub notice : BillText → List ℕ
notice text = framed (codes "<article>\n<h3>") text.title (codes "</h3>\n") ++ body_text text.body

-- the notices, which end the page
unfoldable pub notices : List BillText → List ℕ
notices texts = notices_start ++ flat_map notice texts ++ page_end

-- the changes of each duty are at the duty's own index
unfoldable pub page_text : Bill → Totals → List DutyLine → List (List ChangeRow) → List ℕ
page_text bill totals duties changes = heading bill ++ overview bill totals duties
    ++ details duties changes ++ notices bill.texts
