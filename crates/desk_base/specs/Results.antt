-- What comes next if there is no fault.
use Rattle.std.specs.Prelude.{List, ◌∷◌, Result, Ok, Err}

-- what comes next if there is no fault
abbrev pub then_read : {A B F : Type 0} → Result A F → (A → Result B F) → Result B F
then_read (Ok x) next = next x
then_read (Err fault) next = Err fault

-- one item before others, or the first fault
abbrev pub followed : {A F : Type 0} → Result A F → Result (List A) F → Result (List A) F
followed (Ok x) (Ok xs) = Ok (x ∷ xs)
followed (Ok x) (Err fault) = Err fault
followed (Err fault) more = Err fault
