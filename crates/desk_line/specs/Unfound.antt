-- What a reader of values finds, or why it finds nothing.
use Rattle.std.specs.Prelude.{◌≡◌, ⊤, Option, Some, None, Result, Ok, Err}
use Rattle.desk_line.specs.declared.values.Unfound.{Unfound}
use Rattle.desk_line.specs.declared.values.Unfound.TheVariants as why

-- what the values hold, if they hold it; if no memory was left, nothing is said
abbrev pub IsFound : {X : Type 0} → Option X → Result X Unfound → Type 0
IsFound held (Ok x) = held ≡ Some x
IsFound held (Err why.Lacking) = held ≡ None
IsFound held (Err why.Memory) = ⊤
