-- Days as they are written: `YYYY-MM-DD` (ISO 8601-1, 5.2.2.1, the extended format), years 0000 to
-- 9999.
use Rattle.std.specs.Prelude.{ℕ, ◌+◌, ◌*◌, ◌-◌, ◌==◌, ◌&&◌, nat_le, Bool, List, [], ◌∷◌, length, slice_index, pos}
use Rattle.std.specs.Char.{is_ascii_digit}
use Rattle.std.specs.List.{list_all}
use Rattle.jiff_core.specs.Calendar.{days_in_month}

-- the number that decimal digits write, after digits that write a first number
abbrev pub number_from : ℕ → List ℕ → ℕ
number_from n [] = n
number_from n (d ∷ ds) = number_from (n * 10 + (d - 48)) ds

-- a day of the proleptic Gregorian calendar
abbrev pub exists : ℕ → ℕ → ℕ → Bool
exists year month day =
    nat_le 1 month && nat_le month 12 && nat_le 1 day && nat_le day (days_in_month (pos year) month)

-- four digits, a hyphen, two digits, a hyphen, two digits; and the day exists
abbrev pub writes_day : ℕ → ℕ → ℕ → ℕ → ℕ → ℕ → ℕ → ℕ → ℕ → ℕ → Bool
writes_day y e a r f m n s d c =
    list_all is_ascii_digit (y ∷ e ∷ a ∷ r ∷ m ∷ n ∷ d ∷ c ∷ []) && f == 45 && s == 45
    && exists (number_from 0 (y ∷ e ∷ a ∷ r ∷ [])) (number_from 0 (m ∷ n ∷ []))
    (number_from 0 (d ∷ c ∷ []))

-- ten bytes written like this
abbrev pub is_day : List ℕ → Bool
is_day text =
    let at : ℕ → ℕ = slice_index text in
    (length text == 10) && writes_day (at 0) (at 1) (at 2) (at 3) (at 4) (at 5) (at 6) (at 7) (at 8)
    (at 9)
