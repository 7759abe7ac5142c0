use Rattle.std.proofs.lemmas.Str.{is_utf8-from_IsUtf8}
use Rattle.desk_tree_reports.proofs.lines.missing_front.Goals as goal

pub returns-in_err-from_str-clause-text : goal.returns-in_err-from_str-clause-text
returns-in_err-from_str-clause-text c = is_utf8-from_IsUtf8 c.args.id.now c.utf8.id

pub returns-in_err-add_shown-clause-text : goal.returns-in_err-add_shown-clause-text
returns-in_err-add_shown-clause-text c = is_utf8-from_IsUtf8 c.args.id.now c.utf8.id

pub returns-clause-text : goal.returns-clause-text
returns-clause-text c = is_utf8-from_IsUtf8 c.args.id.now c.utf8.id
