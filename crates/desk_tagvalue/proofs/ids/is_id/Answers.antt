use Rattle.desk_tagvalue.proofs.TextTests.{id_test}
use Rattle.desk_tagvalue.proofs.ids.is_id.Goals as goal

pub returns : goal.returns
returns c = id_test c.is_idstring.result c.args.text.now c.is_idstring.ensures
