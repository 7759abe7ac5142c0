use Rattle.std.proofs.Common.{◌≡◌, length, not}
use Rattle.std.specs.Prelude.{◌==◌}
use Rattle.std.specs.List.{list_all}
use Rattle.desk_sql_layout.proofs.writable.is_word.Given as goal

-- the bytes that are left pass exactly if all do
abbrev pub invariant-loop-byte : goal.invariant-loop-byte
invariant-loop-byte l = list_all (λ byte. not (byte == 32)) l.left
    ≡ list_all (λ byte. not (byte == 32)) l.bytes

abbrev pub decreases-loop-byte : goal.decreases-loop-byte
decreases-loop-byte l = length l.left
