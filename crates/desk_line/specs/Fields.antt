-- Which values can be written in a one-line field of a tag-value document (SPDX 2.3, 4.4). 10 is
-- the line feed.
use Rattle.std.specs.Prelude.{ℕ, ◌==◌, ◌||◌, ◌&&◌, not, nat_eq, Bool, List, codes, Option, Some, None, if◌then◌else◌}
use Rattle.std.specs.List.{list_any, starts_with, ends_with}

-- blanks at the start of a value don't belong to it, and `<text>` there begins a value of several
-- lines
abbrev pub begins_otherwise : List ℕ → Bool
begins_otherwise value = starts_with nat_eq value (codes " ")
    || (starts_with nat_eq value (codes "\t") || starts_with nat_eq value (codes "<text>"))

-- nor do blanks at its end, and a carriage return there belongs to the line's end
abbrev pub ends_otherwise : List ℕ → Bool
ends_otherwise value = ends_with nat_eq value (codes " ")
    || (ends_with nat_eq value (codes "\t") || ends_with nat_eq value (codes "\r"))

-- a value that is read back as it was written
abbrev pub can_stand : List ℕ → Bool
can_stand value = not (list_any (λ b. b == 10) value)
    && (not (begins_otherwise value) && not (ends_otherwise value))

-- the value, if it is read back as it was written
abbrev pub if_stands : List ℕ → Option (List ℕ)
if_stands value = if can_stand value then Some value else None
