use Rattle.std.proofs.Common.{◌≡◌, ◌++◌, drop}
use Rattle.desk_model.specs.Raised.{shipped_of}
use Rattle.desk_access.specs.Seen.{Same, OfRows}
use Rattle.desk_packages.proofs.shipped.shipped_packages.Given as goal

abbrev pub invariant-loop-row : goal.invariant-loop-row
invariant-loop-row g l =
    let old = g.S.Store.seen l.fn.store in
    let new = g.S.Store.seen l.store in
    record {
      same : Same old new;
      all : OfRows (λ t. l.all.items ++ shipped_of (drop l.row-index l.attached) t.packages
          ≡ shipped_of l.attached t.packages) old new;
    }
