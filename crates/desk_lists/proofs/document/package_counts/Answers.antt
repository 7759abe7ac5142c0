use Rattle.std.proofs.Common.{pos, ap, ◌∙◌, to_z, of_z, w64}
use Rattle.std.specs.Prelude.{count_by}
use Rattle.std.specs.Ordering.{int_eq}
use Rattle.std.proofs.lemmas.Int.{to_z-of_z}
use Rattle.desk_lists.specs.Documents.{is_package_of, is_shipped_by}
use Rattle.desk_lists.proofs.Counting.{count_by-among, count_by-among_both}
use Rattle.desk_lists.proofs.document.package_counts.Goals as goal

pub returns-clause-all : goal.returns-clause-all
returns-clause-all c =
    c.count_within.ensures
    ∙ count_by-among (is_package_of (to_z w64 (of_z w64 c.args.document))) c.among-rows.result.now
    c.args.snapshot.now.packages c.among-rows.ensures
    ∙ ap (λ d. count_by (is_package_of d) c.args.snapshot.now.packages)
    (to_z-of_z w64 c.args.document c.ranges.document)

pub returns-clause-shipped : goal.returns-clause-shipped
returns-clause-shipped c =
    c.count_shipped.ensures
    ∙ count_by-among_both (is_package_of (to_z w64 (of_z w64 c.args.document)))
    (λ row. int_eq row.shipped (pos 1)) c.among-rows.result.now
    c.args.snapshot.now.packages c.among-rows.ensures
    ∙ ap (λ d. count_by (is_shipped_by d) c.args.snapshot.now.packages)
    (to_z-of_z w64 c.args.document c.ranges.document)
