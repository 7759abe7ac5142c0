use Rattle.std.proofs.Common.{◌≡◌, length, map}
use Rattle.desk_texts.specs.Documents.{sorted_by}
use Rattle.desk_texts.specs.Rising.{Rises}
use Rattle.desk_texts.proofs.Halving.{put_all_by}
use Rattle.desk_texts.proofs.sorting.sorted_by.Given as goal

abbrev pub invariant-loop-part : goal.invariant-loop-part
invariant-loop-part g l = record {
  put : put_all_by g.P.Identified.id_of l.rest (map (λ p. p.now) l.sorted.items)
      ≡ sorted_by g.P.Identified.id_of l.fn.parts;
  rises : Rises (map (λ p. g.P.Identified.id_of p.now) l.sorted.items);
}

abbrev pub decreases-loop-part : goal.decreases-loop-part
decreases-loop-part g l = length l.rest
