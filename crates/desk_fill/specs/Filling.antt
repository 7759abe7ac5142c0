-- What is missing in the notices of a release, and how files with texts and credits fill it.
use Rattle.std.specs.Prelude.{ℕ, ◌||◌, ◌&&◌, Bool, true, false, List, map, find, count_by}
use Rattle.std.specs.Prelude.{codes, Option, None, Some, option_map, if◌then◌else◌}
use Rattle.std.specs.List.{flat_map}
use Rattle.std.specs.Option.{option_map_or, option_or}
use Rattle.std.specs.Str.{bytes_eq}
use Rattle.desk_base.specs.Folded.{folded}
use Rattle.desk_tokens.specs.Words.{is_reference}
use Rattle.desk_model.specs.declared.bill.Bill.{Bill}
use Rattle.desk_model.specs.declared.bill.BillLine.{BillLine}
use Rattle.desk_model.specs.declared.bill.BillText.{BillText}
use Rattle.desk_model.specs.declared.reading.LicenceText.{LicenceText}
use Rattle.desk_fill.specs.declared.fill.Credit.{Credit}
use Rattle.desk_fill.specs.declared.fill.Fill.{Fill}
use Rattle.desk_fill.specs.declared.filling.Gaps.{Gaps}

-- ---- gaps

-- a value that says that there is nothing, or nothing that is known (SPDX 2.3, 7.17)
abbrev pub is_nothing : List ℕ → Bool
is_nothing value = bytes_eq value (codes "NONE") || bytes_eq value (codes "NOASSERTION")

-- a package without a copyright
abbrev pub lacks_credit : BillLine → Bool
lacks_credit line = option_map_or is_nothing line.copyright true

-- a text that isn't there; a document can also say so of a reference
abbrev pub lacks_body : BillText → Bool
lacks_body text =
    option_map_or (λ body. is_reference text.title && is_nothing body) text.body true

-- how many packages have no copyright, and how many terms no text
abbrev pub gaps_of : Bill → Gaps
gaps_of bill = record {
  credits = count_by lacks_credit bill.lines;
  texts = count_by lacks_body bill.texts;
}

-- ---- what fits

-- the same reference, byte for byte, or the same id, ignoring case (SPDX 2.3, Annex D.2)
abbrev pub is_same_name : List ℕ → List ℕ → Bool
is_same_name a b = if is_reference a || is_reference b then bytes_eq a b
    else bytes_eq (folded a) (folded b)

-- the text of a licence, an exception or a reference
abbrev pub is_text_of : List ℕ → LicenceText → Bool
is_text_of title text = is_same_name title text.title

-- a version, if one is named
abbrev pub is_version : Option (List ℕ) → Option (List ℕ) → Bool
is_version None given = true
is_version (Some version) given = option_map_or (bytes_eq version) given false

-- the credit of a package: of its name, and of its version or any
abbrev pub fits : BillLine → Credit → Bool
fits line credit = bytes_eq credit.name line.name && is_version credit.version line.version

-- ---- filling

-- the first credit that fits, in the order of the files
abbrev pub credit_for : List Fill → BillLine → Option (List ℕ)
credit_for fills line =
    option_map (λ credit. credit.text) (find (fits line) (flat_map (λ fill. fill.credits) fills))

-- the first text of this title
abbrev pub text_for : List Fill → List ℕ → Option (List ℕ)
text_for fills title =
    option_map (λ text. text.body) (find (is_text_of title) (flat_map (λ fill. fill.texts) fills))

-- what is given stays; what is missing is taken from the files, if they have it
abbrev pub filled_line : List Fill → BillLine → BillLine
filled_line fills line = if lacks_credit line
    then record line { copyright = option_or (credit_for fills line) line.copyright } else line

-- the same for a text: one that is given stays
abbrev pub filled_text : List Fill → BillText → BillText
filled_text fills text = if lacks_body text
    then record text { body = option_or (text_for fills text.title) text.body } else text

-- the bill with its gaps filled
abbrev pub filled : List Fill → Bill → Bill
filled fills bill = record bill {
  lines = map (filled_line fills) bill.lines;
  texts = map (filled_text fills) bill.texts;
}
