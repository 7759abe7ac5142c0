use Rattle.desk_memory.proofs.Founds.{document_number}
use Rattle.desk_memory.proofs.store.MemStoreStore.document.Goals as goal

pub returns-in-Some-clause-same : goal.returns-in-Some-clause-same
returns-in-Some-clause-same c = document_number c.args.number _ c.in-Some.row.now c.in-Some.ensures
