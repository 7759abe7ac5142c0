use Rattle.std.proofs.Common.{refl}
use Rattle.std.specs.String.{string_bytes}
use Rattle.desk_page.specs.Rows.{package_row}
use Rattle.desk_base.proofs.Lists.{joined_more}
use Rattle.desk_page.proofs.packages.add_packages.Goals as goal

pub loop-line-preserved : goal.loop-line-preserved
loop-line-preserved c =
    joined_more package_row c.args.lines.now c.loop-line.line-index c.line-item.result
    (string_bytes c.args.text.now) (string_bytes c.loop-line.text)
    (string_bytes c.add_package.new.text) _ c.loop-line-test.true c.line-item.is
    c.loop-line.invariant refl c.in_ok-add_package.ensures
