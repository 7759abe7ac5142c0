use Rattle.std.proofs.Common.{refl}
use Rattle.std.specs.String.{string_bytes}
use Rattle.desk_page.specs.Page.{notice}
use Rattle.desk_base.proofs.Lists.{joined_more}
use Rattle.desk_page.proofs.html.add_texts.Goals as goal

pub loop-given-preserved : goal.loop-given-preserved
loop-given-preserved c =
    joined_more notice c.args.texts.now c.loop-given.given-index c.given-item.result
    (string_bytes c.args.text.now) (string_bytes c.loop-given.text)
    (string_bytes c.add_notice.new.text) _ c.loop-given-test.true c.given-item.is
    c.loop-given.invariant refl c.in_ok-add_notice.ensures
