use Rattle.std.proofs.Common.{◌≡◌, ◌++◌, drop}
use Rattle.desk_memory.proofs.store.codes_copy.Given as goal

abbrev pub invariant-loop-code : goal.invariant-loop-code
invariant-loop-code l = l.copy ++ drop l.code-index l.codes ≡ l.codes
