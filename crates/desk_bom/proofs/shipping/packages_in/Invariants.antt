use Rattle.std.proofs.Common.{◌≡◌, ◌+◌, []}
use Rattle.std.specs.Prelude.{map, filter, All, slice_index_or}
use Rattle.std.specs.List.{range_with_len}
use Rattle.desk_bom.specs.Marks.{among}
use Rattle.desk_bom.proofs.shipping.packages_in.Given as goal

abbrev pub invariant-loop-place : goal.invariant-loop-place
invariant-loop-place l = record {
  places : map (λ n. n.place) l.found.items
      ≡ filter (λ k. among l.reached.order.items (k + 1)) (range_with_len 0 l.place);
  ids : All (λ n. n.id.now ≡ slice_index_or (map (λ p. p.id.now) l.packages) n.place [])
      l.found.items;
}
