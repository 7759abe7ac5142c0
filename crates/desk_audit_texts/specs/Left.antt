-- What is left of a list.
use Rattle.std.specs.Prelude.{◌≡◌, ◌≢◌, List, ◌++◌, Option, Some, None}

-- what is left of a list after a front; nothing if it doesn't begin with that front
abbrev pub IsLeft : {A : Type 0} → List A → List A → Option (List A) → Type 0
IsLeft all front None = (rest : _) → all ≢ front ++ rest
IsLeft all front (Some rest) = all ≡ front ++ rest
