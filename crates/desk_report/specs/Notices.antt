-- The notices of a release: a text that goes with what it ships.
use Rattle.std.specs.Prelude.{ℕ, nat_eq, List, [], ◌++◌, codes, if◌then◌else◌, Option, unwrap_or}
use Rattle.std.specs.List.{ends_with, flat_map}
use Rattle.std.specs.Option.{option_map_or}
use Rattle.desk_report.specs.Lines.{spaced}
use Rattle.desk_model.specs.declared.bill.Bill.{Bill}
use Rattle.desk_model.specs.declared.bill.BillLine.{BillLine}
use Rattle.desk_model.specs.declared.bill.BillText.{BillText}

-- a value between words
unfoldable pub framed : List ℕ → List ℕ → List ℕ → List ℕ
framed before value after = before ++ value ++ after

-- the release and the form in which it ships
abbrev pub heading : Bill → List ℕ
heading bill = framed (codes "Notices for ") bill.release (codes " ")
    ++ framed (codes "(") bill.form (codes ")\n")

-- a package: its name and, if it has one, its version
unfoldable pub name_line : BillLine → List ℕ
name_line line = line.name ++ option_map_or spaced line.version [] ++ codes "\n"

-- the line of a rule of its terms
abbrev pub rule_line : List ℕ → List ℕ
rule_line rule = framed (codes "Licence: ") rule (codes "\n")

-- the line of its copyright, or `none given` if the document gives none
unfoldable pub copyright_line : Option (List ℕ) → List ℕ
copyright_line copyright = framed (codes "Copyright: ") (unwrap_or copyright (codes "none given"))
    (codes "\n")

-- the notice of a package, after an empty line
unfoldable pub package_notice : BillLine → List ℕ
package_notice line = codes "\n" ++ name_line line ++ flat_map rule_line line.rules
    ++ copyright_line line.copyright

-- a body that ends with a line feed, which is added if it has none
abbrev pub ended : List ℕ → List ℕ
ended body = if ends_with nat_eq body (codes "\n") then body else body ++ codes "\n"

-- the body of a text, or a line that none is recorded
abbrev pub body_text : Option (List ℕ) → List ℕ
body_text body = option_map_or ended body (codes "No text recorded.\n")

-- a text after an empty line and its title
abbrev pub text_notice : BillText → List ℕ
text_notice text = framed (codes "\n---- ") text.title (codes " ----\n") ++ body_text text.body

-- the packages of a release, then the texts of their terms
abbrev pub notices_text : Bill → List ℕ
notices_text bill = heading bill ++ flat_map package_notice bill.lines
    ++ flat_map text_notice bill.texts
