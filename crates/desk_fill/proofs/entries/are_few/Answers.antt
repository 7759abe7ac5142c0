use Rattle.std.proofs.Common.{sym, ap}
use Rattle.std.specs.Prelude.{nat_le}
use Rattle.desk_fill.proofs.EntryLemmas.{count-items_view}
use Rattle.desk_fill.proofs.entries.are_few.Goals as goal

pub returns : goal.returns
returns c = sym (ap (λ n. nat_le n 10000) (count-items_view c.args.values.now))
