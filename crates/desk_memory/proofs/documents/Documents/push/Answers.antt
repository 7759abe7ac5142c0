use Rattle.desk_memory.proofs.Naming.{named_more}
use Rattle.desk_memory.proofs.documents.Documents.push.Goals as goal

pub invariant_of-self-2 : goal.invariant_of-self-2
invariant_of-self-2 c =
    let old = c.args.self.now in
    record {
      placed = λ namespace. named_more namespace old.by_namespace.rows.items
          c.reserve-2.new.self.rows.items c.put.new.self.rows.items old.rows.rows.items
          c.reserve.new.self.rows.items c.push.new.self.rows.items c.args.row
          c.in_ok-namespace.namespace c.len-place.result
          old.by_namespace.ascending (old.placed namespace) c.in_ok-namespace.ensures.cases
          c.in_ok-reserve-2.ensures.items c.in_ok-reserve.ensures.items c.len-place.ensures
          c.put.ensures.items c.push.ensures.items;
    }
