-- Disks without failures.
use Rattle.std.proofs.Common.{arith}
use Rattle.sqlite_trees.specs.Tree.{Trees}
use Rattle.sqlite.specs.State.{State, HasCleanDisk, Survives}

pub clean_before : (old new : State) (P : Trees → Type 0) → Survives old new P → HasCleanDisk new
    → HasCleanDisk old
clean_before old new P survives clean = omega (arith, survives.clean)
