-- Numbers as they are written in decimal digits. 10 is the radix.
use Rattle.std.specs.Prelude.{ℕ, ◌^◌, ◌&&◌, Bool, List, length, nat_lt, Option, Some, None, if◌then◌else◌}
use Rattle.std.specs.List.{list_all}
use Rattle.std.specs.Char.{digit_value}
use Rattle.std.specs.Str.Parse.{digits_value, without_leading_plus}

-- an ASCII digit
abbrev pub is_digit : ℕ → Bool
is_digit byte = nat_lt (digit_value byte) 10

-- one digit or more, and nothing else
abbrev pub is_numeral : List ℕ → Bool
is_numeral digits = nat_lt 0 (length digits) && list_all is_digit digits

-- the number that digits are, if it has at most this many bits
abbrev pub number_of : ℕ → List ℕ → Option ℕ
number_of bits digits = if is_numeral digits && nat_lt (digits_value 10 digits) (2 ^ bits)
    then Some (digits_value 10 digits) else None

-- a plus may come before the digits
abbrev pub number_written : ℕ → List ℕ → Option ℕ
number_written bits text = number_of bits (without_leading_plus text)
