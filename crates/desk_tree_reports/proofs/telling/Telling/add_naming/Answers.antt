use Rattle.std.proofs.lemmas.Str.{is_utf8-from_IsUtf8}
use Rattle.desk_tree_reports.proofs.telling.Telling.add_naming.Goals as goal

pub returns-in_err-share-clause-text : goal.returns-in_err-share-clause-text
returns-in_err-share-clause-text c = is_utf8-from_IsUtf8 c.args.path.now c.utf8.path

pub returns-clause-text : goal.returns-clause-text
returns-clause-text c = is_utf8-from_IsUtf8 c.args.path.now c.utf8.path
