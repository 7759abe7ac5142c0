use Rattle.std.proofs.Common.{[], refl}
use Rattle.desk_model.specs.Tables.{tables}
use Rattle.desk_memory.proofs.store.MemStore.new.Goals as goal

pub returns-clause-kept : goal.returns-clause-kept
returns-clause-kept c = λ w. c.new-13.ensures (tables w []) refl refl
