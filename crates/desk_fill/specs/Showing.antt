-- What is written of a release's notices once its gaps are filled.
use Rattle.std.specs.Prelude.{ℕ, ◌==◌, ◌&&◌, not, Bool, List, [], ◌++◌, codes, decimal}
use Rattle.std.specs.Prelude.{Option, Some, None, if◌then◌else◌}
use Rattle.desk_model.specs.declared.bill.Bill.{Bill}
use Rattle.desk_report.specs.Notices.{notices_text}
use Rattle.desk_report.specs.Terminal.{text_on}
use Rattle.desk_fill.specs.declared.fill.Fill.{Fill}
use Rattle.desk_fill.specs.declared.filling.Gaps.{Gaps}
use Rattle.desk_fill.specs.Filling.{filled, gaps_of}

-- nothing is missing
abbrev pub is_whole : Gaps → Bool
is_whole g = (g.credits == 0) && (g.texts == 0)

-- how much is missing, in a line, if anything is
abbrev pub gaps_line : Gaps → List ℕ
gaps_line g = codes "missing: copyrights " ++ (decimal g.credits ++ (codes ", texts "
    ++ (decimal g.texts ++ codes "\n")))

-- that line, or nothing if nothing is missing
abbrev pub left_line : Gaps → List ℕ
left_line g = if is_whole g then [] else gaps_line g

-- the notices, or nothing if they must be complete and aren't
abbrev pub text_if : Bool → Bool → Bill → Option (List ℕ)
text_if is_complete is_terminal bill = if is_complete && not (is_whole (gaps_of bill)) then None
    else Some (text_on is_terminal (notices_text bill))

-- the notices of the filled bill
abbrev pub filled_notices : List Fill → Bool → Bool → Bill → Option (List ℕ)
filled_notices fills is_complete is_terminal bill =
    text_if is_complete is_terminal (filled fills bill)
