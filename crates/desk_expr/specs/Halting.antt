-- The fault of a reader that stops.
use Rattle.std.specs.Prelude.{ℕ}
use Rattle.desk_expr.specs.declared.word.Halt.{Halt}
use Rattle.desk_expr.specs.declared.word.Halt.TheVariants as halt
use Rattle.desk_expr.specs.declared.fault.ParseFault.{ParseFault}
use Rattle.desk_expr.specs.declared.fault.ParseFault.TheVariants.{Unexpected, Memory}

-- the fault of a reader that stops at a place; at a token, both ways to stop are Unexpected, since
-- Unclosed is only for the text's end
abbrev pub fault_at : Halt → ℕ → ParseFault
fault_at halt.Unexpected place = Unexpected place
fault_at halt.Unclosed place = Unexpected place
fault_at (halt.Memory error) place = Memory error
