use Rattle.std.proofs.Common.{◌≡◌, ◌∙◌, List, map, rules}
use Rattle.std.specs.List.{AllByRecursion}
use Rattle.desk_model.specs.declared.command.Fault.TheVariants.{Memory}
use Rattle.desk_model.specs.declared.row.ReleaseRow.{ReleaseRow}
use Rattle.desk_snapshot.specs.Tables.{release_stored}
use Rattle.desk_beside.specs.Beside.{IsSmallRelease}
use Rattle.desk_beside.proofs.Stored.{at_place}
use Rattle.desk_beside.proofs.rows.releases_of.Goals as goal

pub returns-in_err-release_of-clause-cause : goal.returns-in_err-release_of-clause-cause
returns-in_err-release_of-clause-cause c =
    let told : (xs : List ReleaseRow) → c.args.rows.now ≡ map release_stored xs
    → AllByRecursion IsSmallRelease xs → c.in_err-release_of.field-0.0 ≡ Memory = λ xs is each.
    let x = at_place release_stored IsSmallRelease xs c.args.rows.now c.loop-row.row-index
    c.row-item.result is c.loop-row-test.true each in
    c.in_err-release_of.ensures.cause x.0 (c.row-item.is ∙ x.1) x.2 in
    search rules
