use Rattle.std.proofs.Common.{drop}
use Rattle.std.specs.List.{AllByRecursion}
use Rattle.desk_snapshot.specs.Conditions.{IsKept}
use Rattle.desk_audit_texts.proofs.kept.are_kept.Given as goal

abbrev pub invariant-loop-release : goal.invariant-loop-release
invariant-loop-release l = record {
  forth : AllByRecursion (IsKept l.snapshot) (drop l.release-index l.release-items)
      → AllByRecursion (IsKept l.snapshot) l.snapshot.releases;
  back : AllByRecursion (IsKept l.snapshot) l.snapshot.releases
      → AllByRecursion (IsKept l.snapshot) (drop l.release-index l.release-items);
}
