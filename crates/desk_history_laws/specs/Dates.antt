-- Dates: a written day `YYYY-MM-DD` (ISO 8601-1, 5.2.2.1, the extended format) by its year, month
-- and day as numbers.
use Rattle.std.specs.Prelude.{ℕ, List, take, drop}
use Rattle.std.specs.Ordering.{nat_cmp, on, then_cmp}
use Rattle.std.specs.declared.cmp.Ordering.{Ordering}
use Rattle.desk_base.specs.Day.{number_from}

-- the first four digits
abbrev pub year_of : List ℕ → ℕ
year_of day = number_from 0 (take 4 day)

-- the two digits behind the first hyphen
abbrev pub month_of : List ℕ → ℕ
month_of day = number_from 0 (take 2 (drop 5 day))

-- the two digits behind the second hyphen
abbrev pub day_of : List ℕ → ℕ
day_of day = number_from 0 (take 2 (drop 8 day))

-- by year, then by month, then by day
abbrev pub date_order : List ℕ → List ℕ → Ordering
date_order = then_cmp (on year_of nat_cmp) (then_cmp (on month_of nat_cmp) (on day_of nat_cmp))
