use Rattle.std.proofs.Common.{◌≡◌, ◌+◌, ◌++◌, replicate, vec_len}
use Rattle.std.specs.Vec.{vec_capacity}
use Rattle.desk_tally.specs.Stands.{open_at}
use Rattle.desk_tally.proofs.lists.push_open.Given as goal

abbrev pub invariant-loop : goal.invariant-loop
invariant-loop l = record {
  items : l.stands.items ≡ l.fn.stands.items ++ replicate l.counter (open_at l.place);
  len : vec_len l.stands ≡ vec_len l.fn.stands + l.counter;
  capacity : vec_capacity l.stands ≡ vec_capacity l.fn.stands;
}
