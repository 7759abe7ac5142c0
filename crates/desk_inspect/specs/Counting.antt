-- How many gaps an answer of a desk lists.
use Rattle.std.specs.Prelude.{ℕ, length}
use Rattle.desk_model.specs.declared.command.Answer.{Answer}
use Rattle.desk_model.specs.declared.command.Answer.TheVariants.{Gaps}

-- the rows of a list of gaps; any other answer lists none
abbrev pub gap_count : Answer → ℕ
gap_count (Gaps gaps) = length gaps
gap_count _ = 0
