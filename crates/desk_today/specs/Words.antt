-- The words of a request that name a day by `today`.
use Rattle.std.specs.Prelude.{ℕ, ◌++◌, ◌||◌, Bool, List, codes, if◌then◌else◌}
use Rattle.std.specs.Str.{bytes_eq}

-- whether a word gives today to one of the keys of days
abbrev pub is_today : List ℕ → Bool
is_today word = bytes_eq word (codes "day=today") || bytes_eq word (codes "until=today")

-- a word with this day in the place of today
abbrev pub dated : List ℕ → List ℕ → List ℕ
dated day word = if bytes_eq word (codes "day=today") then codes "day=" ++ day
    else if bytes_eq word (codes "until=today") then codes "until=" ++ day else word
