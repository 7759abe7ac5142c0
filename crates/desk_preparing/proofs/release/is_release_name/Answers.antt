use Rattle.std.proofs.Common.{arith}
use Rattle.desk_preparing.proofs.Names.{is_name}
use Rattle.desk_preparing.proofs.release.is_release_name.Goals as goal

pub returns-then-text-le-NAME_BYTES : goal.returns-then-text-le-NAME_BYTES
returns-then-text-le-NAME_BYTES c = is_name c.is_idstring.result c.args.text.now (omega arith)
    c.is_idstring.ensures
