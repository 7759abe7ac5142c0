use Rattle.std.proofs.Common.{◌∙◌, ◌++◌, ap, refl}
use Rattle.std.specs.String.{string_bytes}
use Rattle.desk_page.specs.Rows.{licence_row}
use Rattle.desk_base.proofs.Lists.{joined_more}
use Rattle.desk_page.proofs.licences.add_licences.Goals as goal

pub loop-licence-preserved : goal.loop-licence-preserved
loop-licence-preserved c =
    joined_more (licence_row c.args.duties.now) c.args.licences.now c.loop-licence.licence-index
    c.licence-item.result (string_bytes c.args.text.now) (string_bytes c.loop-licence.text)
    (string_bytes c.add_licence.new.text) _ c.loop-licence-test.true c.licence-item.is
    c.loop-licence.invariant refl
    (c.in_ok-add_licence.ensures ∙ ap (λ l. string_bytes c.loop-licence.text
    ++ licence_row c.args.duties.now l) c.as_str.ensures)
