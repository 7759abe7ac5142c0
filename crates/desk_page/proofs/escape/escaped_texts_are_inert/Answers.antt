use Rattle.desk_page.proofs.Inert.{escaped_is_inert}
use Rattle.desk_page.proofs.escape.escaped_texts_are_inert.Goals as goal

pub returns : goal.returns
returns c = escaped_is_inert
